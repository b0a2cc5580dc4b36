use Rattle.eval_laws.proofs.OneOutcome.{gives_only_values}
use Rattle.eval_laws.proofs.laws.value_law.Goals as goal

pub returns : goal.returns
returns c = gives_only_values
