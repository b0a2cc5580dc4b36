use Rattle.std.proofs.Common.{◌≡◌, [], ◌∷◌, ◌++◌, List, IfOk, ap, ◌∙◌, subst}
use Rattle.values_core.specs.Data.{Val}
use Rattle.values_core.specs.Sets.{IsSetOf, items_of}
use Rattle.logs_updates.specs.declared.update.Op.TheVariants.{Add}
use Rattle.logs_updates.specs.Changes.{Does, Finds}
use Rattle.logs_updates.proofs.MakingLemmas.{if_found, add_is}
use Rattle.logs_updates.proofs.applying.add_to.Goals as goal

pub returns : goal.returns
returns c = λ h.
    let s = c.args.set.now in
    let w = c.args.new.now in
    let listed : c.in_ok-members.members.items ≡ items_of s ++ w ∷ [] = c.in_ok-members.ensures ∙ ap (λ (ms : List Val). ms ++ w ∷ []) c.members.ensures in
    let made = subst (λ (ms : List Val). IfOk c.make_set.result (Finds (IsSetOf ms))) listed c.make_set.ensures in
    if_found c.make_set.result (IsSetOf (items_of s ++ w ∷ [])) (Does (Add w) s) (λ r. add_is s w r h) made
