-- The lines of states: each an object of compact JSON, with its keys in ascending order of their bytes.
use Rattle.std.specs.Prelude.{ℕ, zero, suc, List, [], ◌∷◌, ◌++◌, Option, Some, None, slice_get, length, if◌then◌else◌, codes, decimal}
use Rattle.std.specs.Ordering.{is_lt, nat_cmp}
use Rattle.std.specs.Cmp.Lexicographic.{slice_cmp}
use Rattle.serde_json.specs.Data.{string}
use Rattle.serde_json.specs.Written.{compact_text}
use Rattle.values_core.specs.Data.{Val}
use Rattle.values_json.specs.Prints.{prints}
use Rattle.states_core.specs.States.{Values}
use Rattle.states_core.specs.declared.state.Mark.{Mark}
use Rattle.states_core.specs.declared.state.Mark.TheVariants as mark
use Rattle.states_core.specs.declared.state.Shown.{Shown}
use Rattle.run_texts.specs.Places.{name_at}

-- the number of a variable among these, before the first whose name is above its own
abbrev pub with_number : List (List ℕ) → ℕ → List ℕ → List ℕ
with_number names n [] = n ∷ []
with_number names n (m ∷ ms) =
    if is_lt (slice_cmp nat_cmp (name_at names n) (name_at names m)) then n ∷ m ∷ ms else m ∷ with_number names n ms

-- the numbers below n, in ascending order of the bytes of their variables' names
abbrev pub in_order_below : List (List ℕ) → ℕ → List ℕ
in_order_below names zero = []
in_order_below names (suc n) = with_number names n (in_order_below names n)

-- the numbers of the variables, in ascending order of the bytes of their names
abbrev pub in_order : List (List ℕ) → List ℕ
in_order names = in_order_below names (length names)

-- a value in its one spelling
abbrev pub value_text : Option Val → List ℕ
value_text (Some v) = compact_text (prints v)
value_text None = []

-- the name of the variable of this number, and its value in the state
abbrev pub field_text : List (List ℕ) → Values → ℕ → List ℕ
field_text names s n = compact_text (string (name_at names n)) ++ codes ":" ++ value_text (slice_get s n)

-- fields, each behind a comma
abbrev pub more_text : List (List ℕ) → Values → List ℕ → List ℕ
more_text names s [] = []
more_text names s (n ∷ ns) = codes "," ++ field_text names s n ++ more_text names s ns

-- fields with commas between them
abbrev pub fields_text : List (List ℕ) → Values → List ℕ → List ℕ
fields_text names s [] = []
fields_text names s (n ∷ ns) = field_text names s n ++ more_text names s ns

-- a state, as an object with a field for each variable of these names
abbrev pub state_text : List (List ℕ) → Values → List ℕ
state_text names s = codes "{" ++ fields_text names s (in_order names) ++ codes "}"

-- what stands before a state in its line, and behind it
abbrev pub before_text : Mark → List ℕ
before_text (mark.Line at) = codes "{\"file\":" ++ decimal at.file ++ codes ",\"line\":" ++ decimal at.line ++ codes ",\"state\":"
before_text _ = codes "{\"state\":"

abbrev pub behind_text : Mark → List ℕ
behind_text mark.Init = codes ",\"step\":\"init\"}\n"
behind_text mark.Silent = codes ",\"step\":\"silent\"}\n"
behind_text (mark.Line at) = codes ",\"step\":\"line\"}\n"

-- the lines of states, each with how it was reached
abbrev pub states_text : List (List ℕ) → List Shown → List ℕ
states_text names [] = []
states_text names (s ∷ ss) =
    before_text s.mark ++ state_text names s.state ++ behind_text s.mark ++ states_text names ss

-- the line of a state at which an evaluation faults
abbrev pub faulty_text : List (List ℕ) → Values → List ℕ
faulty_text names s = codes "{\"state\":" ++ state_text names s ++ codes ",\"step\":\"fault\"}\n"
