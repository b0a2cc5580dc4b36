use Rattle.std.proofs.Common.{◌≡◌, ◌<◌, ℕ}
use Rattle.std.specs.Prelude.{Some, slice_get}
use Rattle.values_core.specs.Data.{Val}
use Rattle.judge_pairs.proofs.moving.is_within.Given as goal

abbrev pub invariant-loop-index : goal.invariant-loop-index
invariant-loop-index l = (x : ℕ) (v : Val) → x < l.index → slice_get l.places x ≡ Some (Some v) → slice_get l.state x ≡ Some v
