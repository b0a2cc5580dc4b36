use Rattle.judge_verdicts.proofs.LinedJudging.{explained_states, explained_valid, have_one}
use Rattle.judge_verdicts.proofs.lined_valid.lined_laws.Goals as goal

pub returns-clause-valid : goal.returns-clause-valid
returns-clause-valid c = λ asked. explained_valid c.args.spec.now c.args.lined.now asked c.staying_laws.ensures.stay c.fault_law.ensures c.requires

pub returns-clause-states : goal.returns-clause-states
returns-clause-states c = λ asked. explained_states c.args.spec.now c.args.lined.now asked

pub returns-clause-one : goal.returns-clause-one
returns-clause-one c = λ asked. have_one c.args.spec.now c.args.lined.now asked c.requires
