use Rattle.steps_source.proofs.Given.{line_place}
use Rattle.steps_source.proofs.steps.SpecStepsSteps.at.Goals as goal

pub returns : goal.returns
returns c = line_place c.args.self.now.log.now.lines c.args.line c.line_of.result.now c.line_of.ensures
