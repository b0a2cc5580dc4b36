use Rattle.std.proofs.Common.{ℕ, ◌<◌}
use Rattle.names_terms.specs.Named.{IsNamed}
use Rattle.names_terms.proofs.spec.Spec.operator.Given as goal

abbrev pub invariant-loop-index : goal.invariant-loop-index
invariant-loop-index l = (k : ℕ) → k < l.index → ¬ IsNamed l.operators l.name k
