-- For the prover: what stands in a text, what stands there under a prime, what is wrong with it and whether it means fairness, where notes tell that of the
-- definitions. Of a use and of a LET the notes are asked, and not the bodies, so that nothing here goes in a circle.
use Rattle.std.specs.Prelude.{◌≡◌, ◌<◌, ◌+◌, ℕ, true, false, List, Contains, IsTrue, Some, slice_get}
use Rattle.base_core.specs.declared.place.Place.{Place}
use Rattle.reading_trees.specs.declared.operators.Quantifier.TheVariants as quantifier
use Rattle.names_terms.specs.declared.level.Level.{Level}
use Rattle.names_terms.specs.declared.level.Level.TheVariants.{Constant}
use Rattle.names_terms.specs.declared.operator.Operator.{Operator}
use Rattle.names_terms.specs.Terms as term
use Rattle.names_terms.specs.Terms.{Term, Placed, Meaning, Slot, Use, Scoped, Terms, Bounds, place_of, level_of}
use Rattle.names_term_parts.specs.declared.fault.LevelFault.{LevelFault}
use Rattle.names_term_parts.specs.declared.fault.LevelFault.TheVariants.{TooHigh, PrimedArgument}
use Rattle.names_term_parts.specs.Limits.{Limit, limits, is_above}
use Rattle.names_term_parts.specs.Marks.{has}
use Rattle.names_term_parts.specs.Parts.{Part, parts, listed}
use Rattle.names_term_levels.specs.declared.note.Note.{Note}

-- a definition and its note
pub record IsNoted (ops : List Operator) (ns : List Note) (k : ℕ) (o : Operator) (n : Note) : Type 0 where
  pub is : slice_get ops k ≡ Some o
  pub told : slice_get ns k ≡ Some n

pub data OccursBy (ops : List Operator) (ns : List Note) : Term → ℕ → Type 0 where
  itself : (at : Place) (l : Level) (i : ℕ) → OccursBy ops ns (Placed at l (Slot i)) i
  occurs_in_part : (at : Place) (l : Level) (m : Meaning) (p : Part) (i : ℕ) → Contains (parts false m) p → OccursBy ops ns p.term i
      → OccursBy ops ns (Placed at l m) i
  occurs_in_let : (at : Place) (l : Level) (ks : List ℕ) (e : Term) (k : ℕ) (o : Operator) (n : Note) (i : ℕ) → Contains ks k → IsNoted ops ns k o n
      → i < o.outer → IsTrue (has n.occurs i) → OccursBy ops ns (Placed at l (Scoped ks e)) i
  occurs_where_used : (at : Place) (l : Level) (k : ℕ) (ts : Terms) (o : Operator) (n : Note) (i : ℕ) → IsNoted ops ns k o n → i < o.outer
      → IsTrue (has n.occurs i) → OccursBy ops ns (Placed at l (Use k ts)) i

pub data IsPrimedBy (ops : List Operator) (ns : List Note) : Term → ℕ → Type 0 where
  under : (at : Place) (l : Level) (m : Meaning) (p : Part) (i : ℕ) → Contains (parts false m) p → p.primed ≡ true → OccursBy ops ns p.term i
      → IsPrimedBy ops ns (Placed at l m) i
  primed_in_part : (at : Place) (l : Level) (m : Meaning) (p : Part) (i : ℕ) → Contains (parts false m) p → IsPrimedBy ops ns p.term i
      → IsPrimedBy ops ns (Placed at l m) i
  in_argument : (at : Place) (l : Level) (k : ℕ) (ts : Terms) (o : Operator) (n : Note) (j : ℕ) (e : Term) (i : ℕ) → IsNoted ops ns k o n
      → slice_get (listed ts) j ≡ Some e → IsTrue (has n.primed (o.outer + j)) → OccursBy ops ns e i → IsPrimedBy ops ns (Placed at l (Use k ts)) i
  primed_in_let : (at : Place) (l : Level) (ks : List ℕ) (e : Term) (k : ℕ) (o : Operator) (n : Note) (i : ℕ) → Contains ks k → IsNoted ops ns k o n
      → i < o.outer → IsTrue (has n.primed i) → IsPrimedBy ops ns (Placed at l (Scoped ks e)) i
  primed_where_used : (at : Place) (l : Level) (k : ℕ) (ts : Terms) (o : Operator) (n : Note) (i : ℕ) → IsNoted ops ns k o n → i < o.outer
      → IsTrue (has n.primed i) → IsPrimedBy ops ns (Placed at l (Use k ts)) i

-- of a definition of a LET its note has the first fault
pub data IsFaultBy (ops : List Operator) (ns : List Note) : Term → LevelFault → Type 0 where
  too_high : (at : Place) (l : Level) (m : Meaning) (x : Limit) → Contains (limits at m) x → is_above x.found x.allowed ≡ true
      → IsFaultBy ops ns (Placed at l m) (TooHigh x.found x.allowed x.at)
  primed_argument : (at : Place) (l : Level) (k : ℕ) (ts : Terms) (o : Operator) (n : Note) (j : ℕ) (e : Term) → IsNoted ops ns k o n
      → slice_get (listed ts) j ≡ Some e → IsTrue (has n.primed (o.outer + j)) → is_above (level_of e) Constant ≡ true
      → IsFaultBy ops ns (Placed at l (Use k ts)) (PrimedArgument (place_of e))
  in_part : (at : Place) (l : Level) (m : Meaning) (p : Part) (f : LevelFault) → Contains (parts false m) p → IsFaultBy ops ns p.term f
      → IsFaultBy ops ns (Placed at l m) f
  of_let : (at : Place) (l : Level) (ks : List ℕ) (e : Term) (k : ℕ) (n : Note) (f : LevelFault) → Contains ks k
      → slice_get ns k ≡ Some n → n.fault ≡ Some f → IsFaultBy ops ns (Placed at l (Scoped ks e)) f

pub data IsFairBy (ns : List Note) : Term → Type 0 where
  weak_or_strong : (at : Place) (l : Level) (v e : Term) → IsFairBy ns (Placed at l (term.Fairness v e))
  for_all : (at : Place) (l : Level) (bs : Bounds) (e : Term) → IsFairBy ns e → IsFairBy ns (Placed at l (term.Quantified quantifier.ForAll bs e))
  both : (at : Place) (l : Level) (ts : Terms) → ((e : Term) → Contains (listed ts) e → IsFairBy ns e) → IsFairBy ns (Placed at l (term.All ts))
  named : (at : Place) (l : Level) (k : ℕ) (n : Note) → slice_get ns k ≡ Some n → IsTrue n.fair → IsFairBy ns (Placed at l (term.Use k term.NoTerms))
