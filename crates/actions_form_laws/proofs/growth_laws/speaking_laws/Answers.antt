use Rattle.actions_form_laws.proofs.Growing.{forms-speak, forms-within}
use Rattle.actions_form_laws.proofs.growth_laws.speaking_laws.Goals as goal

pub returns-clause-speak : goal.returns-clause-speak
returns-clause-speak c = forms-speak

pub returns-clause-within : goal.returns-clause-within
returns-clause-within c = forms-within
