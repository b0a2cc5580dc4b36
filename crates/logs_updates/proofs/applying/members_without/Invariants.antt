use Rattle.std.proofs.Common.{◌≡◌, ◌++◌, drop, filter, not}
use Rattle.values_core.specs.Order.{val_eq}
use Rattle.logs_updates.proofs.applying.members_without.Given as goal

abbrev pub invariant-loop-member : goal.invariant-loop-member
invariant-loop-member l = l.others.items ++ filter (λ m. not (val_eq m l.old)) (drop l.member-index l.members) ≡ filter (λ m. not (val_eq m l.old)) l.members
