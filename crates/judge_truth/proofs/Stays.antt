-- Where all variables are fixed before an action, all are fixed behind it.
use Rattle.std.proofs.Common.{◌≡◌, refl}
use Rattle.names_terms.specs.Terms.{Term}
use Rattle.actions_meanings.specs.Forms.{Setting}
use Rattle.actions_meanings.specs.Reads.{VariableSet}
use Rattle.actions_meanings.specs.Outcomes.{Fixes}
use Rattle.actions_form_laws.specs.Growth.{FormsGrow}
use Rattle.judge_truth.specs.Truths.{everything}

pub all_stay : FormsGrow → (g : Setting) (a : Term) (C : VariableSet) → Fixes g a everything C → C ≡ everything
all_stay grow g a C h = λ i x. grow g a everything C h x refl i
