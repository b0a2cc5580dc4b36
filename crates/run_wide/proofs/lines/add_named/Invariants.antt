use Rattle.std.proofs.Common.{◌≡◌, ◌++◌, drop, map}
use Rattle.run_wide.specs.Lines.{named_line}
use Rattle.run_wide.proofs.lines.add_named.Given as goal

abbrev pub invariant-loop-name : goal.invariant-loop-name
invariant-loop-name l = l.lines ++ map (named_line l.files l.word l.at) (drop l.name-index l.names) ≡ l.fn.lines ++ map (named_line l.files l.word l.at) l.names
