use Rattle.std.proofs.Common.{◌≡◌, true}
use Rattle.steps_lines_defs.specs.Asks.{HasNoEvent}
use Rattle.judge_pairs.proofs.Lines.{line_tests}
use Rattle.judge_pairs.proofs.pairs.SpecPairsPairs.stutters.Goals as goal

pub returns : goal.returns
returns c =
    line_tests c.args.self.now.log.now.lines c.args.line c.line_of-line.result.now c.line_of-line.ensures (λ l. (c.args.self.now.stutter ≡ true) × HasNoEvent l.event) c.may_stay.result c.may_stay.ensures
