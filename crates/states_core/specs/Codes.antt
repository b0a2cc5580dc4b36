-- How states with their marks are told apart by a proof: each as data of numbers.
use Rattle.std.specs.Prelude.{◌≡◌, ℕ, List, Option, Some, None, refl}
use Rattle.std.specs.Coded.{Coded, code_by, coded×, coded_ℕ, coded_list, coded_option}
use Rattle.states_core.specs.StateCodes.{values_code}
use Rattle.states_core.specs.States.{Values}
use Rattle.states_core.specs.declared.state.Mark.{Mark}
use Rattle.states_core.specs.declared.state.Mark.TheVariants.{Init, Silent, Line}
use Rattle.states_core.specs.declared.state.Shown.{Shown}

-- no line, or the numbers of one, behind whether it is a line or a silent step
abbrev mark_to : Mark → Option (Option (ℕ × ℕ))
mark_to Init = None
mark_to Silent = Some None
mark_to (Line at) = Some (Some (at.file, at.line))

abbrev mark_from : Option (Option (ℕ × ℕ)) → Mark
mark_from None = Init
mark_from (Some None) = Silent
mark_from (Some (Some p)) = Line (record { file = p.0; line = p.1 })

abbrev mark_from-to : (m : Mark) → mark_from (mark_to m) ≡ m
mark_from-to Init = refl
mark_from-to Silent = refl
mark_from-to (Line at) = refl

abbrev pub mark_code : Coded Mark
mark_code = code_by (Option (Option (ℕ × ℕ))) (coded_option (coded_option (coded× coded_ℕ coded_ℕ))) mark_to mark_from mark_from-to

abbrev pub shown_code : Coded Shown
shown_code = code_by (Mark × Values) (coded× mark_code values_code) (λ s. (s.mark, s.state)) (λ p. record { mark = p.0; state = p.1 }) (λ _. refl)

abbrev pub behaviour_code : Coded (List Shown)
behaviour_code = coded_list shown_code
