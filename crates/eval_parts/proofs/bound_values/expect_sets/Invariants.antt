use Rattle.std.proofs.Common.{map, take}
use Rattle.eval_parts.specs.BoundSets.{HasMembers, bound_members, bound_value}
use Rattle.eval_parts.proofs.Loops.{EachSoFar}
use Rattle.eval_parts.proofs.bound_values.expect_sets.Given as goal

abbrev pub invariant-loop-set : goal.invariant-loop-set
invariant-loop-set l = EachSoFar HasMembers (map bound_value l.sets) l.set-index (map bound_members (take l.set-index l.sets))
