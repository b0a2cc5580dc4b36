-- Which definitions a term uses, which slots stand in it, and which of them stand under a prime.
use Rattle.std.specs.Prelude.{◌≡◌, ◌<◌, ◌+◌, ℕ, true, false, List, Contains, Some, length, slice_get}
use Rattle.base_core.specs.declared.place.Place.{Place}
use Rattle.names_terms.specs.declared.level.Level.{Level}
use Rattle.names_terms.specs.declared.level.Level.TheVariants.{Constant}
use Rattle.names_terms.specs.declared.operator.Operator.{Operator}
use Rattle.names_terms.specs.declared.operator.Own.{Own}
use Rattle.names_terms.specs.declared.operator.Own.TheVariants.{Apart}
use Rattle.names_terms.specs.Terms.{Term, Placed, Meaning, Slot, Use, Scoped, Terms, level_of}
use Rattle.names_term_parts.specs.Parts.{Part, parts, listed}

-- the definition of that number is used in the term, or is one of a LET in it
pub data Mentions : Term → ℕ → Type 0 where
  used : (at : Place) (l : Level) (k : ℕ) (ts : Terms) → Mentions (Placed at l (Use k ts)) k
  listed_in_let : (at : Place) (l : Level) (ks : List ℕ) (e : Term) (k : ℕ) → Contains ks k → Mentions (Placed at l (Scoped ks e)) k
  mentioned_in_part : (at : Place) (l : Level) (m : Meaning) (p : Part) (k : ℕ) → Contains (parts false m) p → Mentions p.term k
      → Mentions (Placed at l m) k

abbrev pub MentionsBelow : ℕ → Term → Type 0
MentionsBelow n e = (k : ℕ) → Mentions e k → k < n

-- the body of the definition of that number uses definitions of smaller numbers alone; where it uses itself, directly or through others, it is constant and
-- may use any of so many
abbrev pub IsInOrder : ℕ → ℕ → Own → Term → Type 0
IsInOrder count k Apart body = MentionsBelow k body
IsInOrder count k own body = (level_of body ≡ Constant) × MentionsBelow count body

-- each definition is so
abbrev pub UsesSmaller : List Operator → Type 0
UsesSmaller ops = (k : ℕ) (o : Operator) → slice_get ops k ≡ Some o → IsInOrder (length ops) k o.own o.body

-- The slot stands in the term: in its text, with the definitions of its LETs, used or not; and in the definition of a LET where that is
-- used. Of the slots of a definition those around it alone are slots of the term.
pub data Occurs (ops : List Operator) : Term → ℕ → Type 0 where
  itself : (at : Place) (l : Level) (i : ℕ) → Occurs ops (Placed at l (Slot i)) i
  occurs_in_part : (at : Place) (l : Level) (m : Meaning) (p : Part) (i : ℕ) → Contains (parts false m) p → Occurs ops p.term i
      → Occurs ops (Placed at l m) i
  occurs_in_let : (at : Place) (l : Level) (ks : List ℕ) (e : Term) (k : ℕ) (o : Operator) (i : ℕ) → Contains ks k
      → slice_get ops k ≡ Some o → i < o.outer → Occurs ops o.body i → Occurs ops (Placed at l (Scoped ks e)) i
  occurs_where_used : (at : Place) (l : Level) (k : ℕ) (ts : Terms) (o : Operator) (i : ℕ) → slice_get ops k ≡ Some o → i < o.outer
      → Occurs ops o.body i → Occurs ops (Placed at l (Use k ts)) i

-- The slot stands under a prime in the term, directly or through calls: an argument stands under a prime where its parameter does.
pub data IsPrimed (ops : List Operator) : Term → ℕ → Type 0 where
  under : (at : Place) (l : Level) (m : Meaning) (p : Part) (i : ℕ) → Contains (parts false m) p → p.primed ≡ true
      → Occurs ops p.term i → IsPrimed ops (Placed at l m) i
  primed_in_part : (at : Place) (l : Level) (m : Meaning) (p : Part) (i : ℕ) → Contains (parts false m) p → IsPrimed ops p.term i
      → IsPrimed ops (Placed at l m) i
  in_argument : (at : Place) (l : Level) (k : ℕ) (ts : Terms) (o : Operator) (j : ℕ) (e : Term) (i : ℕ) → slice_get ops k ≡ Some o
      → slice_get (listed ts) j ≡ Some e → IsPrimed ops o.body (o.outer + j) → Occurs ops e i → IsPrimed ops (Placed at l (Use k ts)) i
  primed_in_let : (at : Place) (l : Level) (ks : List ℕ) (e : Term) (k : ℕ) (o : Operator) (i : ℕ) → Contains ks k
      → slice_get ops k ≡ Some o → i < o.outer → IsPrimed ops o.body i → IsPrimed ops (Placed at l (Scoped ks e)) i
  primed_where_used : (at : Place) (l : Level) (k : ℕ) (ts : Terms) (o : Operator) (i : ℕ) → slice_get ops k ≡ Some o → i < o.outer
      → IsPrimed ops o.body i → IsPrimed ops (Placed at l (Use k ts)) i
