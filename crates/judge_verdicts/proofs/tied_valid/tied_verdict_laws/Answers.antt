use Rattle.judge_verdicts.proofs.TiedJudging.{behaves_over, explained_valid, have_one}
use Rattle.judge_verdicts.proofs.tied_valid.tied_verdict_laws.Goals as goal

pub returns-clause-valid : goal.returns-clause-valid
returns-clause-valid c = λ asked. explained_valid c.args.spec.now c.args.logs.now asked c.staying_laws.ensures.stay c.fault_law.ensures c.requires.ready c.requires.tied

pub returns-clause-states : goal.returns-clause-states
returns-clause-states c = λ asked. behaves_over c.args.spec.now c.args.logs.now asked

pub returns-clause-one : goal.returns-clause-one
returns-clause-one c = λ asked. have_one c.args.spec.now c.args.logs.now asked c.requires.tied
