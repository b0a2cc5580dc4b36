use Rattle.std.proofs.Common.{◌≡◌, List, filter, not, IfOk, ap, ◌∙◌, subst}
use Rattle.values_core.specs.Data.{Val}
use Rattle.values_core.specs.Order.{val_eq}
use Rattle.values_core.specs.Sets.{IsSetOf, items_of}
use Rattle.logs_updates.specs.declared.update.Op.TheVariants.{Remove}
use Rattle.logs_updates.specs.Changes.{Does, Finds}
use Rattle.logs_updates.proofs.MakingLemmas.{if_found, remove_is}
use Rattle.logs_updates.proofs.applying.remove_from.Goals as goal

pub returns : goal.returns
returns c = λ h.
    let s = c.args.set.now in
    let w = c.args.old.now in
    let listed : c.in_ok-members.members.items ≡ filter (λ m. not (val_eq m w)) (items_of s) = c.in_ok-members.ensures ∙ ap (filter (λ m. not (val_eq m w))) c.members.ensures in
    let made = subst (λ (ms : List Val). IfOk c.make_set.result (Finds (IsSetOf ms))) listed c.make_set.ensures in
    if_found c.make_set.result (IsSetOf (filter (λ m. not (val_eq m w)) (items_of s))) (Does (Remove w) s) (λ r. remove_is s w r h) made
