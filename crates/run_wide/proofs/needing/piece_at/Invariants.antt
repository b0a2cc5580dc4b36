use Rattle.std.proofs.Common.{◌≡◌, ◌+◌, length, take}
use Rattle.run_wide.specs.Needing.{names_unread}
use Rattle.run_wide.proofs.needing.piece_at.Given as goal

abbrev pub invariant-loop-index : goal.invariant-loop-index
invariant-loop-index l = l.place ≡ length (names_unread (take l.index l.unread)) + l.rest
