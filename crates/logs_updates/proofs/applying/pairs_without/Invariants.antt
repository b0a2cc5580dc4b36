use Rattle.std.proofs.Common.{◌≡◌, filter, not}
use Rattle.values_core.specs.Order.{val_eq}
use Rattle.logs_updates.proofs.applying.pairs_without.Given as goal

abbrev pub invariant-loop-pair : goal.invariant-loop-pair
invariant-loop-pair l = l.others.items ≡ filter (λ p. not (val_eq p.0 l.key)) l.yielded
