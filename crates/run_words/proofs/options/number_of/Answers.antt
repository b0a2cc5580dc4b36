use Rattle.run_words.specs.Job.{values_of}
use Rattle.run_words.specs.Parsers.{given_by}
use Rattle.run_words.proofs.ReadLaws.{number_at}
use Rattle.run_words.proofs.options.number_of.Goals as goal

pub returns-in-Ok : goal.returns-in-Ok
returns-in-Ok c = number_at c.args.default c.args.least c.args.most (values_of c.args.setting (given_by c.args.matches.now).options) c.in-Ok.value c.number_or.result c.in-Ok.ensures c.number_or.ensures
