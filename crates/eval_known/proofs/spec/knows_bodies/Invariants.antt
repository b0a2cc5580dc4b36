use Rattle.eval_known.proofs.Bodies.{KnowFirst}
use Rattle.eval_known.proofs.spec.knows_bodies.Given as goal

abbrev pub invariant-loop-operator : goal.invariant-loop-operator
invariant-loop-operator l = KnowFirst l.operators l.operator-index
