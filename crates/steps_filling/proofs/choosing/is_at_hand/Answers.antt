use Rattle.steps_filling.proofs.AtHand.{at_hand}
use Rattle.steps_filling.proofs.choosing.is_at_hand.Goals as goal

pub returns-in-Some : goal.returns-in-Some
returns-in-Some c = λ t. at_hand c.args.set.now c.in-Some.field-0.members c.in-Some.field-0.levels c.in-Some.ensures
