use Rattle.std.proofs.Common.{◌≡◌, map, take}
use Rattle.steps_why_not.proofs.through.slots_of.Given as goal

abbrev pub invariant-loop-value : goal.invariant-loop-value
invariant-loop-value l = map (λ v. v.now) l.slots.items ≡ take l.value-index l.values
