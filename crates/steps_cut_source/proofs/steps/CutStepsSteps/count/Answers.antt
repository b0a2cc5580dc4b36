use Rattle.steps_cut_source.proofs.Untied.{untied}
use Rattle.steps_cut_source.proofs.steps.CutStepsSteps.count.Goals as goal

pub count-requires-clause-tied : goal.count-requires-clause-tied
count-requires-clause-tied c = untied c.args.self.now.logs.now c.args.self.now.tied
