use Rattle.values_json.proofs.OneValue.{one_value}
use Rattle.values_json.proofs.ReadBack.{read_back}
use Rattle.values_json.proofs.laws.json_laws.Goals as goal

pub returns-clause-printed : goal.returns-clause-printed
returns-clause-printed c = read_back

pub returns-clause-one_value : goal.returns-clause-one_value
returns-clause-one_value c = one_value
