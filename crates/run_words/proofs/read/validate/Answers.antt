use Rattle.run_words.specs.declared.command.Command.TheVariants.{Validate}
use Rattle.run_words.specs.declared.job.Job.{Job}
use Rattle.run_words.specs.Words.{Asks}
use Rattle.run_words.specs.Line.{words_of}
use Rattle.run_words.proofs.ReadLaws.{at_none, no_validate}
use Rattle.run_words.proofs.read.validate.Goals as goal

pub returns-in-None : goal.returns-in-None
returns-in-None c =
    let ws = words_of c.args.words.now in
    no_validate ws (at_none c.in_ok-job.field-0 ((j : Job) → Asks Validate ws j → ⊥) (λ j. Asks Validate ws j) c.in-None.is c.in_ok-job.ensures)
