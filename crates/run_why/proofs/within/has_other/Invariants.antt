use Rattle.std.specs.List.{Contains}
use Rattle.run_why.proofs.Reaching.{NoneBefore}
use Rattle.run_why.proofs.within.has_other.Given as goal

abbrev pub invariant-loop-state : goal.invariant-loop-state
invariant-loop-state l = NoneBefore (λ s. ¬ Contains l.entries s) l.states l.state-index
