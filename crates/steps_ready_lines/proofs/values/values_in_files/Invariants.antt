use Rattle.std.specs.Prelude.{List, All}
use Rattle.logs_updates.specs.declared.line.Line.{Line}
use Rattle.steps_ready_lines.specs.Lines.{HasValues}
use Rattle.steps_ready_lines.proofs.UpTo.{UpTo}
use Rattle.steps_ready_lines.proofs.values.values_in_files.Given as goal

abbrev pub invariant-loop-lines : goal.invariant-loop-lines
invariant-loop-lines l = UpTo (λ (lines : List Line). All (λ line. HasValues line.event) lines) l.files l.lines-index
