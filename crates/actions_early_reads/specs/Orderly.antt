-- What is asked of the terms that an action is made of: their levels are those of their parts, and their variables are those of the specification.
use Rattle.std.specs.Prelude.{◌≡◌, ◌<◌, ℕ, false, All, Contains, Some, slice_get}
use Rattle.base_core.specs.declared.place.Place.{Place}
use Rattle.names_terms.specs.declared.level.Level.{Level}
use Rattle.names_terms.specs.declared.level.Level.TheVariants as levels
use Rattle.names_terms.specs.declared.operator.Operator.{Operator}
use Rattle.names_terms.specs.Lists.{terms_list}
use Rattle.names_terms.specs.Terms as term
use Rattle.names_terms.specs.Terms.{Term, Placed, Meaning, Terms, level_of}
use Rattle.names_term_parts.specs.Parts.{Part, parts}
use Rattle.eval_meanings.specs.Contexts.{Table}

-- A term stands in a term: it is the term, or stands in a part of it, or in the body of a definition that it uses.
pub data StandsIn (ops : Table) : Term → Term → Type 0 where
  itself : (e : Term) → StandsIn ops e e
  stands_in_part : (at : Place) (l : Level) (m : Meaning) (p : Part) (f : Term) → Contains (parts false m) p → StandsIn ops p.term f
      → StandsIn ops (Placed at l m) f
  stands_in_body : (at : Place) (l : Level) (k : ℕ) (ts : Terms) (o : Operator) (f : Term) → slice_get ops k ≡ Some o → StandsIn ops o.body f
      → StandsIn ops (Placed at l (term.Use k ts)) f

-- of a constant level is no variable, and no tuple with a part of another level
abbrev pub HasLevel : Level → Meaning → Type 0
HasLevel levels.Constant (term.Variable x) = ⊥
HasLevel levels.Constant (term.Tuple ts) = All (λ e. level_of e ≡ levels.Constant) (terms_list ts)
HasLevel l m = Unit {0}

abbrev pub HasNumber : ℕ → Meaning → Type 0
HasNumber variables (term.Variable x) = x < variables
HasNumber variables m = Unit {0}

abbrev pub IsSound : ℕ → Term → Type 0
IsSound variables (Placed at l m) = HasLevel l m × HasNumber variables m

-- all that stands in the term is so
abbrev pub IsSoundThroughout : Table → ℕ → Term → Type 0
IsSoundThroughout ops variables e = (f : Term) → StandsIn ops e f → IsSound variables f
