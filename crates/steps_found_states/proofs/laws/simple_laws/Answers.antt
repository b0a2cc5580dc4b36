use Rattle.steps_found_states.proofs.Simple.{walked_true, walked_false, walked_no_truth, walked_assign, walked_no_value, walked_choose, walked_no_set, walked_no_list}
use Rattle.steps_found_states.proofs.Opened.{walked_nested}
use Rattle.steps_found_states.proofs.laws.simple_laws.Goals as goal

pub returns-clause-tests : goal.returns-clause-tests
returns-clause-tests c = λ g d sees B p c a gr i. (walked_true g d sees B p c a gr i, walked_false g d sees B p c a gr i, walked_no_truth g d sees B p c a gr i)

pub returns-clause-assignments : goal.returns-clause-assignments
returns-clause-assignments c = λ g d sees B p c a gr x e i. (λ v qs h w. walked_assign g d sees B p c a gr x e i v h qs w, walked_no_value g d sees B p c a gr x e i)

pub returns-clause-choices : goal.returns-clause-choices
returns-clause-choices c = λ g d sees B p c a gr x e i. (
  λ S qs h l w. walked_choose g d sees B p c a gr x e i S h l qs w,
  walked_no_set g d sees B p c a gr x e i,
  λ S f h b l. walked_no_list g d sees B p c a gr x e i S h b f l,
)

pub returns-clause-nested : goal.returns-clause-nested
returns-clause-nested c = walked_nested
