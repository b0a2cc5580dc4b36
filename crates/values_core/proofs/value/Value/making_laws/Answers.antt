use Rattle.values_core.proofs.MakingLaws.{function_answers, members_are_values, pairs_are_values}
use Rattle.values_core.proofs.value.Value.making_laws.Goals as goal

pub returns : goal.returns
returns c = record {
  function_answers = function_answers;
  members = members_are_values;
  pairs = pairs_are_values;
}
