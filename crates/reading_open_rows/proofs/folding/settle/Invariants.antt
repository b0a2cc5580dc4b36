use Rattle.std.proofs.Common.{◌≡◌, vec_len}
use Rattle.reading_open_rows.specs.Does.{frames_in}
use Rattle.reading_machine.specs.Machine.{settle}
use Rattle.reading_open_rows.proofs.folding.settle.Given as goal

abbrev pub invariant-loop-frame : goal.invariant-loop-frame
invariant-loop-frame l = settle l.case (frames_in l.stack) l.operand ≡ settle l.case (frames_in l.fn.stack) l.fn.last

abbrev pub decreases-loop-frame : goal.decreases-loop-frame
decreases-loop-frame l = vec_len l.stack.frames
