-- The code and the name of why a term has no form as an action. Want of memory has none.
use Rattle.std.specs.Prelude.{ℕ, List, [], codes}
use Rattle.actions_meanings.specs.declared.fault.FormFault.{FormFault}
use Rattle.actions_meanings.specs.declared.fault.FormFault.TheVariants as form

abbrev pub form_code : FormFault → List ℕ
form_code (form.PrimeTooEarly variable at) = codes "A1 PrimeTooEarly"
form_code (form.NotFixed variable at) = codes "A2 NotFixed"
form_code form.NoMemory = []
