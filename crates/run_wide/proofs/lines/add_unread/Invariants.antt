use Rattle.std.proofs.Common.{◌≡◌, ◌++◌, drop}
use Rattle.run_wide.specs.Lines.{unread_lines}
use Rattle.run_wide.proofs.lines.add_unread.Given as goal

abbrev pub invariant-loop-noted : goal.invariant-loop-noted
invariant-loop-noted l = l.lines ++ unread_lines l.files (drop l.noted-index l.unread) ≡ l.fn.lines ++ unread_lines l.files l.unread
