use Rattle.std.proofs.Common.{List, filter, not, IfOk, subst}
use Rattle.values_core.specs.Data.{Val}
use Rattle.values_core.specs.Functions.{pairs_in}
use Rattle.values_core.specs.Order.{val_eq}
use Rattle.logs_updates.specs.declared.update.Op.TheVariants.{Drop}
use Rattle.logs_updates.specs.Changes.{Does, Finds, IsMappingOf}
use Rattle.logs_updates.proofs.MakingLemmas.{if_found, drop_is}
use Rattle.logs_updates.proofs.applying.drop_key.Goals as goal

pub returns : goal.returns
returns c = λ h.
    let f = c.args.function.now in
    let k = c.args.key.now in
    let made = subst (λ (ps : List (Val × Val)). IfOk c.make_function.result (Finds (IsMappingOf ps))) c.in_ok-pairs.ensures c.make_function.ensures in
    if_found c.make_function.result (IsMappingOf (filter (λ p. not (val_eq p.0 k)) (pairs_in f))) (Does (Drop k) f) (λ r. drop_is f k r c.is_value.ensures h) made
