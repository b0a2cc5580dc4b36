-- Of which variables a term speaks.
use Rattle.std.specs.Prelude.{◌<◌, ℕ, Contains}
use Rattle.base_core.specs.declared.place.Place.{Place}
use Rattle.names_terms.specs.declared.level.Level.{Level}
use Rattle.names_terms.specs.Terms as term
use Rattle.names_terms.specs.Terms.{Term, Placed, Meaning}
use Rattle.eval_meanings.specs.Contexts.{Table}
use Rattle.actions_meanings.specs.Reads.{terms_in}

-- the variable stands in the term, or in a term of which it is made: the body of a definition that it uses is one
pub data Speaks (ops : Table) : Term → ℕ → Type 0 where
  spoken : (at : Place) (l : Level) (x : ℕ) → Speaks ops (Placed at l (term.Variable x)) x
  spoken_within : (at : Place) (l : Level) (m : Meaning) (e : Term) (x : ℕ) → Contains (terms_in ops at m) e → Speaks ops e x → Speaks ops (Placed at l m) x

-- each variable of which it speaks is one of the first v
abbrev pub SpeaksBelow : Table → ℕ → Term → Type 0
SpeaksBelow ops v e = (x : ℕ) → Speaks ops e x → x < v
