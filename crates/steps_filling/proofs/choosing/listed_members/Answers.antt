use Rattle.std.proofs.Common.{List, subst}
use Rattle.values_core.specs.Data.{Val}
use Rattle.steps_filling.specs.Fillings.{AreFilled}
use Rattle.steps_filling.proofs.AtHand.{seen_filled}
use Rattle.steps_filling.proofs.choosing.listed_members.Goals as goal

pub returns-in_ok-fill_each-in-Ok-clause-found : goal.returns-in_ok-fill_each-in-Ok-clause-found
returns-in_ok-fill_each-in-Ok-clause-found c =
    let found = c.in_ok-fill_each-in-Ok.field-0.items in
    (c.in-Ok.listed, c.in-Ok.ensures, c.is_value-in-Ok.ensures, subst (λ (vs : List Val). AreFilled c.args.sees.now c.args.number.0 vs c.args.places.now found) c.members.ensures c.in_ok-fill_each-in-Ok.ensures)

pub returns-then-is_at_hand-clause-found : goal.returns-then-is_at_hand-clause-found
returns-then-is_at_hand-clause-found c =
    seen_filled c.args.sees.now c.args.number.0 c.args.set c.args.at c.args.places.now c.in-Some.value.now c.in_ok-found.field-0.items
    (c.is_at_hand.ensures c.if-is_at_hand.true) c.is_value.ensures c.in-Some.ensures c.in_ok-found.ensures
