use Rattle.std.proofs.Common.{ℕ, ◌<◌}
use Rattle.states_layers.proofs.assumptions.judge.Given as goal

abbrev pub invariant-loop-index : goal.invariant-loop-index
invariant-loop-index g l = (k : ℕ) → k < l.index → (g.S.Steps.system l.steps).IsAssumed k
