use Rattle.actions_forms.proofs.Outcomes.{one-form-outcome, form-outcome}
use Rattle.actions_forms.proofs.laws.form_laws.Goals as goal

pub returns-clause-one : goal.returns-clause-one
returns-clause-one c = one-form-outcome

pub returns-clause-some : goal.returns-clause-some
returns-clause-some c = form-outcome
