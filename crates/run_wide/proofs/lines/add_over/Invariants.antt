use Rattle.std.proofs.Common.{◌≡◌, ◌++◌, drop, map}
use Rattle.run_wide.specs.Lines.{over_line}
use Rattle.run_wide.proofs.lines.add_over.Given as goal

abbrev pub invariant-loop-gone : goal.invariant-loop-gone
invariant-loop-gone l = l.lines ++ map (over_line l.files) (drop l.gone-index l.over) ≡ l.fn.lines ++ map (over_line l.files) l.over
