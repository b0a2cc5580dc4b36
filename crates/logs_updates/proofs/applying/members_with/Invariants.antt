use Rattle.std.proofs.Common.{◌≡◌, take}
use Rattle.logs_updates.proofs.applying.members_with.Given as goal

abbrev pub invariant-loop-member : goal.invariant-loop-member
invariant-loop-member l = l.all.items ≡ take l.member-index l.members
