use Rattle.std.proofs.Common.{◌≡◌, ◌++◌, drop}
use Rattle.run_wide.specs.Needing.{names_unread}
use Rattle.run_wide.proofs.needing.names_unread.Given as goal

abbrev pub invariant-loop-noted : goal.invariant-loop-noted
invariant-loop-noted l = l.names ++ names_unread (drop l.noted-index l.unread) ≡ names_unread l.unread
