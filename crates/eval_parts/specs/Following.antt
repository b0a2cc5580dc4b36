-- What UNCHANGED follows, and what it looks for there.
use Rattle.std.specs.Prelude.{ℕ, List, Option, Some, None, slice_get}
use Rattle.base_core.specs.declared.place.Place.{Place}
use Rattle.names_terms.specs.declared.level.Level.TheVariants as levels
use Rattle.names_terms.specs.declared.operator.Operator.{Operator}
use Rattle.names_terms.specs.Terms as term
use Rattle.names_terms.specs.Terms.{Term, Placed}
use Rattle.eval_meanings.specs.Contexts.{Table}

-- the definition that a name of level 1 without arguments stands for, if the term is such a name
abbrev pub followed : Table → Term → Option Operator
followed ops (Placed at levels.State (term.Use k term.NoTerms)) = slice_get ops k
followed ops e = None

-- a variable, as a term that no text spells
abbrev pub variable_at : Place → ℕ → Term
variable_at at x = Placed at levels.State (term.Variable x)
