-- A printed state as JSON: its line is the compact text of an object.
use Rattle.std.proofs.Common.{true, false, ◌≡◌, ℕ, List, [], ◌∷◌, ◌++◌, Option, Some, None, refl, ap, ◌∙◌, append_assoc, codes}
use Rattle.std.specs.Prelude.{slice_get}
use Rattle.json.specs.Print.{quoted}
use Rattle.serde_json.specs.Data.{Data, null, number, string, object, unsigned, Members, no_members, member}
use Rattle.serde_json.specs.Written.{compact_text, members_text}
use Rattle.values_core.specs.Data.{Val}
use Rattle.values_json.specs.Prints.{prints}
use Rattle.states_core.specs.States.{Values}
use Rattle.states_core.specs.declared.state.Mark.{Mark}
use Rattle.states_core.specs.declared.state.Mark.TheVariants as mark
use Rattle.run_texts.specs.Places.{name_at}
use Rattle.run_texts.specs.States.{field_text, fields_text, in_order, more_text, state_text, value_text}

-- the JSON of a value that is there
abbrev pub value_data : Option Val → Data
value_data (Some v) = prints v
value_data None = null

-- the members of a state, in this order of the variables
abbrev pub fields_data : List (List ℕ) → Values → List ℕ → Members
fields_data names s [] = no_members
fields_data names s (n ∷ ns) = member (name_at names n) (value_data (slice_get s n)) (fields_data names s ns)

abbrev pub state_data : List (List ℕ) → Values → Members
state_data names s = fields_data names s (in_order names)

-- the members of a line
abbrev pub line_data : List (List ℕ) → Mark → Values → Members
line_data names mark.Init s = member (codes "state") (object (state_data names s)) (member (codes "step") (string (codes "init")) no_members)
line_data names mark.Silent s = member (codes "state") (object (state_data names s)) (member (codes "step") (string (codes "silent")) no_members)
line_data names (mark.Line at) s =
    member (codes "file") (number (unsigned at.file)) (member (codes "line") (number (unsigned at.line))
    (member (codes "state") (object (state_data names s)) (member (codes "step") (string (codes "line")) no_members)))

-- each of these variables has a value
abbrev pub AreGiven : Values → List ℕ → Type 0
AreGiven s [] = Unit {0}
AreGiven s (n ∷ ns) = ((v : Val) × (slice_get s n ≡ Some v)) × AreGiven s ns

value_written : (o : Option Val) (v : Val) → o ≡ Some v → value_text o ≡ compact_text (value_data o)
value_written None v e = absurd cc
value_written (Some w) v e = refl

field_written : (names : List (List ℕ)) (s : Values) (n : ℕ) (v : Val) → slice_get s n ≡ Some v
    → field_text names s n ≡ quoted (name_at names n) ++ 58 ∷ compact_text (value_data (slice_get s n))
field_written names s n v e =
    append_assoc (quoted (name_at names n)) (codes ":") (value_text (slice_get s n)) ∙ ap (λ (t : List ℕ). quoted (name_at names n) ++ 58 ∷ t) (value_written (slice_get s n) v e)

regroup : (q a b : List ℕ) → (q ++ 58 ∷ a) ++ b ≡ q ++ 58 ∷ (a ++ b)
regroup q a b = append_assoc q (58 ∷ a) b

more_written : (names : List (List ℕ)) (s : Values) (ns : List ℕ) → AreGiven s ns → more_text names s ns ++ codes "}" ≡ members_text true (fields_data names s ns)
more_written names s [] g = refl
more_written names s (n ∷ ns) g =
    ap (λ (t : List ℕ). 44 ∷ t) (append_assoc (field_text names s n) (more_text names s ns) (codes "}") ∙ ap (λ (t : List ℕ). field_text names s n ++ t) (more_written names s ns g.1)
    ∙ ap (λ (t : List ℕ). t ++ members_text true (fields_data names s ns)) (field_written names s n g.0.0 g.0.1)
    ∙ regroup (quoted (name_at names n)) (compact_text (value_data (slice_get s n))) (members_text true (fields_data names s ns)))

fields_written : (names : List (List ℕ)) (s : Values) (ns : List ℕ) → AreGiven s ns → fields_text names s ns ++ codes "}" ≡ members_text false (fields_data names s ns)
fields_written names s [] g = refl
fields_written names s (n ∷ ns) g =
    append_assoc (field_text names s n) (more_text names s ns) (codes "}") ∙ ap (λ (t : List ℕ). field_text names s n ++ t) (more_written names s ns g.1)
    ∙ ap (λ (t : List ℕ). t ++ members_text true (fields_data names s ns)) (field_written names s n g.0.0 g.0.1)
    ∙ regroup (quoted (name_at names n)) (compact_text (value_data (slice_get s n))) (members_text true (fields_data names s ns))

pub state_written : (names : List (List ℕ)) (s : Values) → AreGiven s (in_order names) → state_text names s ≡ compact_text (object (state_data names s))
state_written names s g = ap (λ (t : List ℕ). 123 ∷ t) (fields_written names s (in_order names) g)
