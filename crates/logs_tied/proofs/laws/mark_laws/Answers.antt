use Rattle.logs_tied.proofs.Marked.{name_one_order, unready_is_wrong}
use Rattle.logs_tied.proofs.laws.mark_laws.Goals as goal

pub returns-clause-one : goal.returns-clause-one
returns-clause-one c = name_one_order

pub returns-clause-wrong : goal.returns-clause-wrong
returns-clause-wrong c = unready_is_wrong
