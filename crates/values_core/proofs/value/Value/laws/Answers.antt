use Rattle.values_core.specs.SetLaws.{same_members, set_answers}
use Rattle.values_core.specs.FunctionLaws.{functions_by_pairs, one_value_at_key, domain_by_pairs}
use Rattle.values_core.proofs.value.Value.laws.Goals as goal

pub returns : goal.returns
returns c = record {
  sets = same_members;
  functions = functions_by_pairs;
  one_value = one_value_at_key;
  domain = domain_by_pairs;
  set_answers = set_answers;
}
