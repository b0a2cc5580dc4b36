use Rattle.std.proofs.Common.{take}
use Rattle.steps_why_walk.specs.Ends.{IsMembers}
use Rattle.steps_why_walk.proofs.leaves.member_ends.Given as goal

abbrev pub invariant-loop-value : goal.invariant-loop-value
invariant-loop-value l = IsMembers l.room l.places l.number.0 (take l.value-index l.values) l.ends.items
