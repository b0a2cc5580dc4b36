use Rattle.std.proofs.Common.{ℕ, ◌<◌}
use Rattle.names_terms.specs.Named.{IsVariable}
use Rattle.names_terms.proofs.spec.Spec.variable.Given as goal

abbrev pub invariant-loop-index : goal.invariant-loop-index
invariant-loop-index l = (k : ℕ) → k < l.index → ¬ IsVariable l.variables l.name k
