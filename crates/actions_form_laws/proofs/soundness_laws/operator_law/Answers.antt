use Rattle.actions_form_laws.proofs.Sound.{all-operators}
use Rattle.actions_form_laws.proofs.soundness_laws.operator_law.Goals as goal

pub returns : goal.returns
returns c = all-operators
