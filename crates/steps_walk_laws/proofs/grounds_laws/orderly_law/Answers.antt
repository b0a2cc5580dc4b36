use Rattle.steps_walk_laws.proofs.Tuples.{orderly_tuples}
use Rattle.steps_walk_laws.proofs.grounds_laws.orderly_law.Goals as goal

pub returns : goal.returns
returns c = λ g d n sees B C p c' a orderly low slots before long fills agrees values now known bodies fixes.
    c.ground_law.ensures.grounds g d sees B p c' a long fills agrees values now known bodies
    (c.walking_law.ensures g d n B C p c' a orderly low slots before long fills fixes) (orderly_tuples g d n B C a orderly low fixes)
