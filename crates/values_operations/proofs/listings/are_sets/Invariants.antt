use Rattle.std.proofs.Common.{ℕ, ◌<◌, get_or}
use Rattle.values_core.specs.Data.{Val}
use Rattle.values_core.specs.Sets.{IsSet}
use Rattle.values_operations.proofs.listings.are_sets.Given as goal

abbrev pub invariant-loop-v : goal.invariant-loop-v
invariant-loop-v l = (k : ℕ) (d : Val) → k < l.v-index → IsSet (get_or l.values k d)
