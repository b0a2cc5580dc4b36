use Rattle.actions_form_laws.proofs.Whole.{whole-stays}
use Rattle.actions_form_laws.proofs.growth_laws.whole_law.Goals as goal

pub returns : goal.returns
returns c = whole-stays
