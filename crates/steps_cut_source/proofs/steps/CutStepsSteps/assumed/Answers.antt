use Rattle.steps_ready_defs.specs.Beside.{asked}
use Rattle.steps_cut_source.proofs.Told.{told_beside}
use Rattle.steps_cut_source.proofs.steps.CutStepsSteps.assumed.Goals as goal

pub assumed-requires : goal.assumed-requires
assumed-requires c = c.requires.ready.spec

pub returns : goal.returns
returns c =
    let s = c.args.self.now in
    λ below. told_beside s.spec.now s.logs.now (asked s.stutter s.within s.limit) c.args.index c.assumed.result (c.assumed.ensures below)
