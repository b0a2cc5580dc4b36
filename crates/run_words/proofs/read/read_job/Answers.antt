use Rattle.std.proofs.Common.{sym, subst, List}
use Rattle.run_words.specs.Line.{Text}
use Rattle.run_words.specs.Job.{AreFiles}
use Rattle.run_words.proofs.read.read_job.Goals as goal

pub returns-in_default-files : goal.returns-in_default-files
returns-in_default-files c = λ j i. c.in_default-files.ensures j.module j.logs (subst (λ (ts : List Text). AreFiles ts j.module j.logs) (sym c.in-Some.ensures) i.files)
