use Rattle.std.proofs.Common.{◌≡◌, vec_len}
use Rattle.reading_open_rows.specs.Does.{frames_in}
use Rattle.reading_machine.specs.Machine.{infix_step}
use Rattle.reading_open_rows.proofs.infix.infix_step.Given as goal

abbrev pub invariant-loop-frame : goal.invariant-loop-frame
invariant-loop-frame l = infix_step l.q l.at (frames_in l.stack) l.operand ≡ infix_step l.q l.at (frames_in l.fn.stack) l.fn.last

abbrev pub decreases-loop-frame : goal.decreases-loop-frame
decreases-loop-frame l = vec_len l.stack.frames
