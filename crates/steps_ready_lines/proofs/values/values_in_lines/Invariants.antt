use Rattle.steps_ready_lines.specs.Lines.{HasValues}
use Rattle.steps_ready_lines.proofs.UpTo.{UpTo}
use Rattle.steps_ready_lines.proofs.values.values_in_lines.Given as goal

abbrev pub invariant-loop-line : goal.invariant-loop-line
invariant-loop-line l = UpTo (λ line. HasValues line.event) l.lines l.line-index
