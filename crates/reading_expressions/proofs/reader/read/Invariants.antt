use Rattle.std.proofs.Common.{◌≡◌, []}
use Rattle.reading_open_rows.specs.Does.{frames_in}
use Rattle.reading_token_steps.specs.Kept.{kept_run}
use Rattle.reading_expressions.proofs.KeptRuns.{LastBefore, ReadUpTo}
use Rattle.reading_expressions.proofs.reader.read.Given as goal

abbrev pub invariant-loop-i : goal.invariant-loop-i
invariant-loop-i l = (kept_run l.fn.laid l.fn.from [] l.fn.start ≡ kept_run l.laid l.i (frames_in l.stack) l.mode) × LastBefore l.fn.laid l.fn.from l.i l.last × ReadUpTo l.fn.laid l.fn.from l.i l.fn.start (frames_in l.stack) l.mode
