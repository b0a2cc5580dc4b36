-- What a file of states says.
use Rattle.std.specs.Prelude.{◌≡◌, ◌+◌, ◌==◌, ℕ, List, [], ◌∷◌, ◌++◌, Result, Ok, Err}
use Rattle.std.specs.List.{slice_split}
use Rattle.states_core.specs.declared.state.Shown.{Shown}
use Rattle.states_files.specs.Lines.{StateLineSays}
use Rattle.states_files.specs.declared.kind.StateLine.{StateLine}
use Rattle.states_files.specs.declared.kind.StateLine.TheVariants.{Skipped, State, Refused}
use Rattle.states_files.specs.declared.refusal.StateRefusal.{StateRefusal}

-- the text between line feeds; what is behind the last one may be empty, and is passed over then
abbrev pub pieces_of : List ℕ → List (List ℕ)
pieces_of bytes = slice_split (λ b. b == 10) bytes

-- what follows the line of this number: a refusal ends the file, and else the lines behind go on with what was found
abbrev pub GoesOn : (List Shown → Type 0) → ℕ → List Shown → Result (List Shown) StateRefusal → StateLine → Type 0
GoesOn Behind number found r Skipped = Behind found
GoesOn Behind number found r (State shown) = Behind (found ++ shown ∷ [])
GoesOn Behind number found r (Refused why) = r ≡ Err (record { kind = why; line = number })

-- what these lines say, the first of which has this number, behind the states that were found: all states, or the first refusal
abbrev pub StateLinesSay : List (List ℕ) → ℕ → List Shown → List (List ℕ) → Result (List Shown) StateRefusal → Type 0
StateLinesSay names number found [] r = r ≡ Ok found
StateLinesSay names number found (line ∷ rest) r =
    (o : StateLine) × StateLineSays names line o × GoesOn (λ more. StateLinesSay names (number + 1) more rest r) number found r o

-- what a file says over the variables of these names: the states of its lines in their order, or the first refusal
abbrev pub StateFileSays : List (List ℕ) → List ℕ → Result (List Shown) StateRefusal → Type 0
StateFileSays names bytes r = StateLinesSay names 1 [] (pieces_of bytes) r
