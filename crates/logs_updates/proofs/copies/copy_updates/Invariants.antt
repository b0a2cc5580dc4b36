use Rattle.std.proofs.Common.{◌≡◌, take}
use Rattle.logs_updates.proofs.copies.copy_updates.Given as goal

abbrev pub invariant-loop-update : goal.invariant-loop-update
invariant-loop-update l = l.copy ≡ take l.update-index l.updates
