use Rattle.logs_tied.proofs.Small.{all_lines, few_lines}
use Rattle.logs_tied.proofs.logs.Logs.count.Goals as goal

pub lines_in-requires : goal.lines_in-requires
lines_in-requires c = few_lines c.args.self.now c.requires.tied c.requires.few c.deref.result.now c.deref.ensures.value

pub returns : goal.returns
returns c = all_lines c.args.self.now c.requires.tied c.deref.result.now c.lines_in.result c.deref.ensures.value c.lines_in.ensures
