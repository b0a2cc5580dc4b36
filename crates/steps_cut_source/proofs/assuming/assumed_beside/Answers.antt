use Rattle.steps_cut_source.proofs.Told.{ready_alone, told_alone}
use Rattle.steps_cut_source.proofs.assuming.assumed_beside.Goals as goal

pub assumed-requires : goal.assumed-requires
assumed-requires c = record { ready = ready_alone c.args.spec.now c.args.log.now c.requires.nothing c.requires.ready }

pub returns : goal.returns
returns c = told_alone c.args.spec.now c.args.log.now c.args.index c.assumed.result c.requires.nothing c.assumed.ensures
