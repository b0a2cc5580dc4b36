use Rattle.run_words.specs.Job.{values_of}
use Rattle.run_words.specs.Parsers.{given_by}
use Rattle.run_words.proofs.ReadLaws.{many_numbers, number_in_at}
use Rattle.run_words.proofs.options.most_of.Goals as goal

pub returns-in-Ok : goal.returns-in-Ok
returns-in-Ok c = number_in_at 1 1000 (values_of c.args.setting (given_by c.args.matches.now).options) c.in-Ok.value c.number_in.result c.in-Ok.ensures c.number_in.ensures

pub returns-in-Err : goal.returns-in-Err
returns-in-Err c = many_numbers 1 1000 (values_of c.args.setting (given_by c.args.matches.now).options) c.in-Err.ensures
