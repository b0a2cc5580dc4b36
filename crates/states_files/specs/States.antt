-- The state that an object is, over the names of the variables.
use Rattle.std.specs.Prelude.{ℕ, List, [], ◌∷◌, Bool, true, ◌&&◌, Option, None, Some, is_some}
use Rattle.std.specs.List.{list_all, list_any}
use Rattle.std.specs.Str.{bytes_eq}
use Rattle.serde_json.specs.Data.{Data, Members, no_members, member}
use Rattle.serde_json.specs.Find.{get_member}
use Rattle.values_core.specs.Data.{Val}
use Rattle.states_core.specs.States.{Values}
use Rattle.values_json.specs.Reads.{Reads}

abbrev pub is_among : List ℕ → List (List ℕ) → Bool
is_among name names = list_any (λ n. bytes_eq n name) names

-- each key is a variable's name
abbrev pub are_known : List (List ℕ) → Members → Bool
are_known names no_members = true
are_known names (member k d ms) = is_among k names && are_known names ms

-- each variable's name is a key
abbrev pub are_there : List (List ℕ) → Members → Bool
are_there names ms = list_all (λ name. is_some (get_member name ms)) names

-- what stands there is this value
abbrev pub ReadsAt : Option Data → Val → Type 0
ReadsAt None v = ⊥
ReadsAt (Some d) v = Reads d v

-- what stands at the names are these values, in the order of the names
abbrev pub StateReads : Members → List (List ℕ) → Values → Type 0
StateReads ms [] [] = Unit {0}
StateReads ms (name ∷ names) (v ∷ vs) = ReadsAt (get_member name ms) v × StateReads ms names vs
StateReads ms _ _ = ⊥
