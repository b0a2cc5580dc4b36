-- What a line of a file of states says, and why it is refused.
use Rattle.std.specs.Prelude.{◌≡◌, ◌⊎◌, ◌==◌, ℕ, List, [], ◌∷◌, Bool, false, Some, Result, Ok, Err, IsUtf8, MatchBool}
use Rattle.serde_json.specs.Data.{Members, object}
use Rattle.serde_json.specs.Read.{read}
use Rattle.states_core.specs.States.{shown}
use Rattle.states_core.specs.declared.state.Mark.{Mark}
use Rattle.states_files.specs.Fields.{LineFields, fields_of}
use Rattle.states_files.specs.States.{StateReads, are_known, are_there}
use Rattle.states_files.specs.declared.kind.StateKind.{StateKind}
use Rattle.states_files.specs.declared.kind.StateKind.TheVariants.{NotJson, BadField, UnknownVariable, MissingVariable, BadValue}
use Rattle.states_files.specs.declared.kind.StateLine.{StateLine}
use Rattle.states_files.specs.declared.kind.StateLine.TheVariants.{Skipped, State, Refused}

-- P of what there is, and Q of it; this refusal where there is none
abbrev pub OnValue : {A : Type 0} → (A → Type 0) → StateKind → (A → StateLine → Type 0) → StateLine → Type 0
OnValue P why Q o = ((a : _) × P a × Q a o) ⊎ (((a : _) → ¬ P a) × (o ≡ Refused why))

-- this refusal where the fact holds, and else Q
abbrev pub Unless : Type 0 → StateKind → (StateLine → Type 0) → StateLine → Type 0
Unless Bad why Q o = (Bad × (o ≡ Refused why)) ⊎ (¬ Bad × Q o)

-- the values of a state, or why it has none
abbrev pub ValuesSay : List (List ℕ) → Mark → Members → StateLine → Type 0
ValuesSay names m ms = OnValue (StateReads ms names) BadValue (λ values o. o ≡ State (shown m values))

-- a state is an object with each variable's name as a key, and with no other
abbrev pub StateSays : List (List ℕ) → Mark → Members → StateLine → Type 0
StateSays names m ms =
    Unless (are_known names ms ≡ false) UnknownVariable (Unless (are_there names ms ≡ false) MissingVariable (ValuesSay names m ms))

abbrev pub FieldsSay : List (List ℕ) → Result LineFields (List ℕ) → StateLine → Type 0
FieldsSay names (Err key) o = o ≡ Refused (BadField key)
FieldsSay names (Ok f) o = StateSays names f.mark f.state o

-- the line is the JSON of an object with these members, of which each key has its last content; what begins with { is no other JSON
abbrev pub IsObject : List ℕ → Members → Type 0
IsObject line ms = IsUtf8 line × (read line ≡ Some (object ms))

abbrev pub ObjectSays : List (List ℕ) → List ℕ → StateLine → Type 0
ObjectSays names line = OnValue (IsObject line) NotJson (λ ms. FieldsSay names (fields_of ms))

-- the first byte is {
abbrev pub is_shown : List ℕ → Bool
is_shown [] = false
is_shown (b ∷ bs) = b == 123

-- what a line says, and else the first of its refusals; a line that does not begin with { is passed over
abbrev pub StateLineSays : List (List ℕ) → List ℕ → StateLine → Type 0
StateLineSays names line o = MatchBool (is_shown line) (ObjectSays names line o) (o ≡ Skipped)
