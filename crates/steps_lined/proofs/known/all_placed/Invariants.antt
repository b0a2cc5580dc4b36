use Rattle.std.specs.Prelude.{List, All}
use Rattle.logs_updates.specs.declared.line.Line.{Line}
use Rattle.steps_lined.specs.Held.{IsPlaced}
use Rattle.steps_lined.proofs.UpTo.{UpTo}
use Rattle.steps_lined.proofs.known.all_placed.Given as goal

abbrev pub invariant-loop-lines : goal.invariant-loop-lines
invariant-loop-lines l = UpTo (λ (lines : List Line). All IsPlaced lines) l.files l.lines-index
