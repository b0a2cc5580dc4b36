use Rattle.judge_pairs.proofs.Lines.{line_place}
use Rattle.judge_pairs.proofs.pairs.SpecPairsPairs.at.Goals as goal

pub returns : goal.returns
returns c = line_place c.args.self.now.log.now.lines c.args.line c.line_of.result.now c.line_of.ensures
