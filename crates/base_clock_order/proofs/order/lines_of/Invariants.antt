use Rattle.std.proofs.Common.{◌≡◌, map, take}
use Rattle.base_clock_order.specs.Stamps.{line_of}
use Rattle.base_clock_order.proofs.order.lines_of.Given as goal

abbrev pub invariant-loop-file : goal.invariant-loop-file
invariant-loop-file l = l.lines.items ≡ map line_of (take l.file-index l.stamps)
