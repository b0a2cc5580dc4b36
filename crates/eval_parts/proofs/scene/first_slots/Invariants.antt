use Rattle.std.proofs.Common.{◌≡◌, take}
use Rattle.eval_parts.proofs.scene.first_slots.Given as goal

abbrev pub invariant-loop-index : goal.invariant-loop-index
invariant-loop-index l = l.all.items ≡ take l.index l.slots
