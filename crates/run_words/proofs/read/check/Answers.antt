use Rattle.std.proofs.Common.{List, ℕ}
use Rattle.run_words.specs.declared.job.Job.{Job}
use Rattle.run_words.specs.Words.{AsksCheck}
use Rattle.run_words.specs.Line.{words_of}
use Rattle.run_words.proofs.ReadLaws.{at_none, no_check}
use Rattle.run_words.proofs.read.check.Goals as goal

pub returns-in-None : goal.returns-in-None
returns-in-None c =
    let ws = words_of c.args.words.now in
    no_check ws (at_none c.in_ok-job.field-0 ((j : Job) (w : List ℕ) → AsksCheck ws j w → ⊥) (λ r. AsksCheck ws r.0 r.1) c.in-None.is c.in_ok-job.ensures)
