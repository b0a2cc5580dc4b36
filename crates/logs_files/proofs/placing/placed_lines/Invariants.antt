use Rattle.std.proofs.Common.{take}
use Rattle.std.specs.List.{AllZip}
use Rattle.logs_files.specs.Logs.{StandsAt}
use Rattle.logs_files.proofs.placing.placed_lines.Given as goal

abbrev pub invariant-loop-place : goal.invariant-loop-place
invariant-loop-place l = AllZip (StandsAt l.files) (take l.place-index l.order) l.lines
