use Rattle.steps_source.proofs.steps.SpecStepsSteps.initial.Goals as goal

pub initial-requires-clause-ready : goal.initial-requires-clause-ready
initial-requires-clause-ready c = c.requires.ready.spec

pub initial-requires-clause-sees : goal.initial-requires-clause-sees
initial-requires-clause-sees c = c.requires.ready.first

pub returns : goal.returns
returns c = c.initial.ensures
