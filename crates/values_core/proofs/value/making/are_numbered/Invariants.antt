use Rattle.std.proofs.Common.{◌≡◌, ℕ, ◌+◌, ◌<◌, get_or, pos}
use Rattle.values_core.specs.Data.{Val, integer}
use Rattle.values_core.proofs.value.making.are_numbered.Given as goal

abbrev pub invariant-loop-i : goal.invariant-loop-i
invariant-loop-i l = (k : ℕ) (d : Val × Val) → k < l.i → (get_or l.pairs.items k d).0 ≡ integer (pos (k + 1))
