use Rattle.judge_truth.proofs.Staying.{orderly_stay}
use Rattle.judge_truth.proofs.faults_laws.fault_law.Goals as goal

pub returns : goal.returns
returns c = orderly_stay c.growth_law.ensures
