-- What the lines of one file say.
use Rattle.std.specs.Prelude.{◌≡◌, ◌+◌, ◌==◌, ℕ, pos, List, [], ◌∷◌, ◌++◌, Bool, true, false, None, Some, Result, Ok, Err}
use Rattle.std.specs.List.{slice_split}
use Rattle.logs_updates.specs.declared.clock.Clock.{Clock}
use Rattle.logs_updates.specs.declared.clock.Clock.TheVariants.{Number}
use Rattle.logs_lines.specs.Setting.{Setting}
use Rattle.logs_lines.specs.Lines.{LineSays}
use Rattle.logs_lines.specs.declared.clocks.ClockForm.{ClockForm}
use Rattle.logs_lines.specs.declared.position.Position.{Position}
use Rattle.logs_lines.specs.declared.kind.Outcome.{Outcome}
use Rattle.logs_lines.specs.declared.kind.Outcome.TheVariants.{Blank, Init, Step, Refused}
use Rattle.logs_lines.specs.declared.file.FileLines.{FileLines}
use Rattle.logs_lines.specs.declared.file.Refusal.{Refusal}

-- the text between line feeds; what is behind the last one may be empty, and is blank then
abbrev pub pieces_of : List ℕ → List (List ℕ)
pieces_of bytes = slice_split (λ b. b == 10) bytes

-- where the first line of a file stands
abbrev pub first_line : ℕ → Bool → ℕ → ClockForm → Position
first_line file many room form = record { file = file; many = many; room = room; line = 1; first = true; steps = 0; form = form; clock = Number (pos 0) }

-- where the line behind a blank one stands
abbrev pub behind_blank : Position → Position
behind_blank at = record { file = at.file; many = at.many; room = at.room; line = at.line + 1; first = at.first; steps = at.steps; form = at.form; clock = at.clock }

abbrev pub behind_init : Position → Position
behind_init at = record { file = at.file; many = at.many; room = at.room; line = at.line + 1; first = false; steps = at.steps; form = at.form; clock = at.clock }

abbrev pub behind_step : Position → ClockForm → Clock → Position
behind_step at form clock = record { file = at.file; many = at.many; room = at.room; line = at.line + 1; first = false; steps = at.steps + 1; form = form; clock = clock }

-- before the first line nothing is found
abbrev pub nothing_found : ClockForm → FileLines
nothing_found form = record { init = None; steps = []; form = form }

-- what follows one line: a refusal ends the file, and else the lines behind go on with what was found
abbrev pub GoesOn : (Position → FileLines → Type 0) → Position → FileLines → Result FileLines Refusal → Outcome → Type 0
GoesOn Behind at found r Blank = Behind (behind_blank at) found
GoesOn Behind at found r (Init sees) = Behind (behind_init at) (record { init = Some sees; steps = found.steps; form = found.form })
GoesOn Behind at found r (Step line form) = Behind (behind_step at form line.clock) (record { init = found.init; steps = found.steps ++ line ∷ []; form = form })
GoesOn Behind at found r (Refused why) = r ≡ Err (record { kind = why; line = at.line })

-- what these lines say behind what was found: all that is found, or the first refusal
abbrev pub LinesSay : Setting → Position → FileLines → List (List ℕ) → Result FileLines Refusal → Type 0
LinesSay g at found [] r = r ≡ Ok found
LinesSay g at found (line ∷ rest) r = (o : Outcome) × LineSays g at line o × GoesOn (λ next more. LinesSay g next more rest r) at found r o

-- what a file says whose first line stands there
abbrev pub FileSays : Setting → Position → List ℕ → Result FileLines Refusal → Type 0
FileSays g at bytes r = LinesSay g at (nothing_found at.form) (pieces_of bytes) r
