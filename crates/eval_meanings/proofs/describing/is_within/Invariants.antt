use Rattle.values_sets.specs.Membership.{Belongs}
use Rattle.values_sets.proofs.Loops.{EachBelow}
use Rattle.eval_meanings.proofs.describing.is_within.Given as goal

abbrev pub invariant-loop-value : goal.invariant-loop-value
invariant-loop-value l = EachBelow (Belongs l.set) l.values l.value-index
