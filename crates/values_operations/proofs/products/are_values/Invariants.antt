use Rattle.std.proofs.Common.{ℕ, ◌<◌, get_or}
use Rattle.values_core.specs.Data.{Val}
use Rattle.values_core.specs.IsValue.{IsValue}
use Rattle.values_operations.proofs.products.are_values.Given as goal

abbrev pub invariant-loop-v : goal.invariant-loop-v
invariant-loop-v l = (k : ℕ) (d : Val) → k < l.v-index → IsValue (get_or l.values k d)
