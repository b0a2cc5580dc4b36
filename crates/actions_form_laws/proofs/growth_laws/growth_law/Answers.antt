use Rattle.actions_form_laws.proofs.Growing.{forms-grow}
use Rattle.actions_form_laws.proofs.growth_laws.growth_law.Goals as goal

pub returns : goal.returns
returns c = forms-grow
