use Rattle.std.proofs.Common.{ℕ, ◌<◌, get_or}
use Rattle.values_core.specs.Data.{Val, depth}
use Rattle.values_operations.proofs.products.has_deep.Given as goal

abbrev pub invariant-loop-v : goal.invariant-loop-v
invariant-loop-v l = (k : ℕ) (d : Val) → k < l.v-index → depth (get_or l.values k d) < l.levels
