-- The lines on terms that have no form as an action.
use Rattle.std.specs.Prelude.{ℕ, List, [], ◌++◌}
use Rattle.actions_meanings.specs.declared.fault.FormFault.{FormFault}
use Rattle.actions_meanings.specs.declared.fault.FormFault.TheVariants as form
use Rattle.actions_meanings.specs.FaultCodes.{form_code}
use Rattle.run_texts.specs.Places.{name_at, at_place, detail, refused}

-- with the names of the variables; nothing is written where memory is wanting
abbrev pub form_refusal : List (List ℕ) → List (List ℕ) → FormFault → List ℕ
form_refusal files variables (form.PrimeTooEarly variable at) =
    refused (form_code (form.PrimeTooEarly variable at)) (detail (name_at variables variable.0) ++ at_place files at)
form_refusal files variables (form.NotFixed variable at) =
    refused (form_code (form.NotFixed variable at)) (detail (name_at variables variable.0) ++ at_place files at)
form_refusal files variables form.NoMemory = []
