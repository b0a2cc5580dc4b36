use Rattle.std.proofs.Common.{◌≡◌, ℕ, ◌+◌, ◌<◌, get_or}
use Rattle.std.specs.declared.cmp.Ordering.TheVariants.{Less}
use Rattle.values_core.specs.Data.{Val}
use Rattle.values_core.specs.Order.{val_cmp}
use Rattle.values_core.proofs.value.making.has_key_twice.Given as goal

abbrev pub invariant-loop-i : goal.invariant-loop-i
invariant-loop-i l = (k j : ℕ) (d : Val × Val) → j ≡ k + 1 → j < l.i → val_cmp (get_or l.pairs.items k d).0 (get_or l.pairs.items j d).0 ≡ Less
