use Rattle.actions_form_laws.proofs.Staying.{forms-stay, forms-alike}
use Rattle.actions_form_laws.proofs.growth_laws.staying_laws.Goals as goal

pub returns-clause-stay : goal.returns-clause-stay
returns-clause-stay c = forms-stay

pub returns-clause-alike : goal.returns-clause-alike
returns-clause-alike c = forms-alike
