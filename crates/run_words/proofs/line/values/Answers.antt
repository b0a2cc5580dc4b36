use Rattle.clap.specs.Matches.{found_of}
use Rattle.run_words.proofs.Rows.{values_are}
use Rattle.run_words.proofs.line.values.Goals as goal

pub returns : goal.returns
returns c = values_are (found_of c.args.matches.now) c.args.id.now c.get_strs.result c.get_strs.ensures
