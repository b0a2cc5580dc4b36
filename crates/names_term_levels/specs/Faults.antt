-- What is wrong with the levels in a text: parts that are too high, and arguments of parameters that stand under a prime.
use Rattle.std.specs.Prelude.{◌≡◌, ◌+◌, ℕ, true, false, List, Contains, Some, slice_get}
use Rattle.base_core.specs.declared.place.Place.{Place}
use Rattle.names_terms.specs.declared.level.Level.{Level}
use Rattle.names_terms.specs.declared.level.Level.TheVariants.{Constant}
use Rattle.names_terms.specs.declared.operator.Operator.{Operator}
use Rattle.names_terms.specs.Terms.{Term, Placed, Meaning, Use, Scoped, Terms, place_of, level_of}
use Rattle.names_term_parts.specs.declared.fault.LevelFault.{LevelFault}
use Rattle.names_term_parts.specs.declared.fault.LevelFault.TheVariants.{TooHigh, PrimedArgument}
use Rattle.names_term_parts.specs.FaultOrder.{is_before}
use Rattle.names_term_parts.specs.Limits.{Limit, limits, is_above}
use Rattle.names_term_parts.specs.Parts.{Part, parts, listed}
use Rattle.names_term_parts.specs.Slots.{IsPrimed}

-- The fault is one of the term: of its text, with the definitions of its LETs, used or not.
pub data IsFault (ops : List Operator) : Term → LevelFault → Type 0 where
  too_high : (at : Place) (l : Level) (m : Meaning) (x : Limit) → Contains (limits at m) x → is_above x.found x.allowed ≡ true
      → IsFault ops (Placed at l m) (TooHigh x.found x.allowed x.at)
  primed_argument : (at : Place) (l : Level) (k : ℕ) (ts : Terms) (o : Operator) (j : ℕ) (e : Term) → slice_get ops k ≡ Some o
      → slice_get (listed ts) j ≡ Some e → IsPrimed ops o.body (o.outer + j) → is_above (level_of e) Constant ≡ true
      → IsFault ops (Placed at l (Use k ts)) (PrimedArgument (place_of e))
  in_part : (at : Place) (l : Level) (m : Meaning) (p : Part) (f : LevelFault) → Contains (parts false m) p → IsFault ops p.term f
      → IsFault ops (Placed at l m) f
  of_let : (at : Place) (l : Level) (ks : List ℕ) (e : Term) (k : ℕ) (o : Operator) (f : LevelFault) → Contains ks k
      → slice_get ops k ≡ Some o → IsFault ops o.body f → IsFault ops (Placed at l (Scoped ks e)) f

-- the first in the order of the text of those that are such
pub record IsFirst (IsSuch : LevelFault → Type 0) (f : LevelFault) : Type 0 where
  pub is_such : IsSuch f
  pub none_before : (g : LevelFault) → IsSuch g → is_before g f ≡ false

-- what is wrong with an assumption: what is wrong in its term, and that it is no constant
pub data IsAssumptionFault (ops : List Operator) : Term → LevelFault → Type 0 where
  in_term : (e : Term) (f : LevelFault) → IsFault ops e f → IsAssumptionFault ops e f
  no_constant : (at : Place) (l : Level) (m : Meaning) → is_above l Constant ≡ true
      → IsAssumptionFault ops (Placed at l m) (TooHigh l Constant at)
