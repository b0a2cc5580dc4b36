use Rattle.actions_form_laws.proofs.Sound.{all-orderly}
use Rattle.actions_form_laws.proofs.soundness_laws.sound_law.Goals as goal

pub returns : goal.returns
returns c = all-orderly
