-- What is noted of a text, as the code keeps it.
use Rattle.std.specs.Prelude.{◌≡◌, ◌↔◌, ℕ, List, IsTrue, MatchOption, Some, slice_get}
use Rattle.names_terms.specs.declared.operator.Operator.{Operator}
use Rattle.names_terms.specs.Terms.{Term}
use Rattle.names_term_parts.specs.declared.fault.LevelFault.{LevelFault}
use Rattle.names_term_levels.specs.declared.note.Note.{Note}
use Rattle.names_term_levels.specs.Faults.{IsFault, IsFirst}
use Rattle.names_term_parts.specs.Marks.{has}
use Rattle.names_term_levels.specs.Shape.{IsFair}
use Rattle.names_term_parts.specs.Slots.{Occurs, IsPrimed}

-- the note of a text: which slots stand in it and which of them under a prime, its first fault, and whether it means fairness
pub record IsNote (ops : List Operator) (e : Term) (n : Note) : Type 0 where
  pub occurs : (i : ℕ) → IsTrue (has n.occurs i) ↔ Occurs ops e i
  pub primed : (i : ℕ) → IsTrue (has n.primed i) ↔ IsPrimed ops e i
  pub fault : MatchOption n.fault ((f : LevelFault) → ¬ IsFault ops e f) (IsFirst (IsFault ops e))
  pub fair : IsTrue n.fair ↔ IsFair ops e

-- the notes are those of the first definitions
abbrev pub AreNotes : List Operator → List Note → Type 0
AreNotes ops ns = (k : ℕ) (o : Operator) (n : Note) → slice_get ops k ≡ Some o → slice_get ns k ≡ Some n → IsNote ops o.body n
