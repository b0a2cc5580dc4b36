use Rattle.std.proofs.Common.{◌≡◌, map}
use Rattle.values_core.proofs.value.making.values_from.Given as goal

abbrev pub invariant-loop-key : goal.invariant-loop-key
invariant-loop-key l = l.values.items ≡ map (λ p. p.1) l.yielded
