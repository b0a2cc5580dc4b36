-- What is told of terms that differ by the numbers of definitions alone is the same of both.
use Rattle.std.specs.Prelude.{◌≡◌, ℕ, Bool, List}
use Rattle.std.specs.List.{AllZip}
use Rattle.base_core.specs.declared.place.Place.{Place}
use Rattle.values_core.specs.Data.{Val}
use Rattle.names_terms.specs.declared.operator.Operator.{Operator}
use Rattle.names_terms.specs.Terms.{Term, Meaning, place_of, level_of}
use Rattle.names_term_parts.specs.declared.fault.LevelFault.{LevelFault}
use Rattle.names_term_parts.specs.Limits.{limits}
use Rattle.names_term_parts.specs.Parts.{Part, parts}
use Rattle.names_term_parts.specs.Slots.{Occurs, IsPrimed}
use Rattle.names_term_levels.specs.Faults.{IsFault, IsFirst, IsAssumptionFault}
use Rattle.names_term_levels.specs.Shape.{IsFair, Contribution, Gives, HasShape}
use Rattle.twice_terms.specs.Alike.{Alike, AlikeMeanings, AlikeRows, AlikeOperatorsBy, IsOneVariable}

-- two definitions differ by the numbers in their bodies alone
abbrev pub AlikeOperators : (Val → Val → Type 0) → List Operator → List Operator → Operator → Operator → Type 0
AlikeOperators Same ops all o p = AlikeOperatorsBy Same IsOneVariable (AlikeRows Same ops all) o p

-- both stand under a prime, or neither does
pub record AlikeParts (Same : Val → Val → Type 0) (ops all : List Operator) (p q : Part) : Type 0 where
  pub terms : Alike Same ops all p.term q.term
  pub primed : p.primed ≡ q.primed

-- one by one
pub record AlikeContributions (Same : Val → Val → Type 0) (ops all : List Operator) (p q : Contribution) : Type 0 where
  pub inits : AllZip (Alike Same ops all) p.inits q.inits
  pub steps : AllZip (Alike Same ops all) p.steps q.steps

-- two values are one
abbrev pub AreOne : Val → Val → Type 0
AreOne v w = v ≡ w

-- nothing is asked of two values
abbrev pub AreAny : Val → Val → Type 0
AreAny v w = Unit {0}

-- What holds of two terms that are alike, each over its table.
pub record TellSame (Same : Val → Val → Type 0) (ops all : List Operator) (e f : Term) : Type 0 where
  pub places : place_of e ≡ place_of f
  pub levels : level_of e ≡ level_of f
  pub occurs : (i : ℕ) → Occurs ops e i → Occurs all f i
  pub occurs_back : (i : ℕ) → Occurs all f i → Occurs ops e i
  pub primed : (i : ℕ) → IsPrimed ops e i → IsPrimed all f i
  pub primed_back : (i : ℕ) → IsPrimed all f i → IsPrimed ops e i
  pub fault : (x : LevelFault) → IsFault ops e x → IsFault all f x
  pub fault_back : (x : LevelFault) → IsFault all f x → IsFault ops e x
  pub assumption_fault : (x : LevelFault) → IsAssumptionFault ops e x → IsAssumptionFault all f x
  pub assumption_fault_back : (x : LevelFault) → IsAssumptionFault all f x → IsAssumptionFault ops e x
  pub first_fault : (x y : LevelFault) → IsFirst (IsFault ops e) x → IsFirst (IsFault all f) y → x ≡ y
  pub first_assumption_fault : (x y : LevelFault) → IsFirst (IsAssumptionFault ops e) x → IsFirst (IsAssumptionFault all f) y → x ≡ y
  pub fair : IsFair ops e → IsFair all f
  pub fair_back : IsFair all f → IsFair ops e
  pub gives : (p : Contribution) → Gives ops e p → (q : Contribution) × AlikeContributions Same ops all p q × Gives all f q
  pub shape : (init next : Term) → HasShape ops e init next
      → (first other : Term) × Alike Same ops all init first × Alike Same ops all next other × HasShape all f first other
  -- of two shapes, one over each table, the terms are alike
  pub shapes : (init next first other : Term) → HasShape ops e init next → HasShape all f first other
      → Alike Same ops all init first × Alike Same ops all next other

abbrev pub AlikeTellSame : (Val → Val → Type 0) → Type 0
AlikeTellSame Same = (ops all : List Operator) (e f : Term) → Alike Same ops all e f → TellSame Same ops all e f

-- parts of alike meanings are alike one by one, and have the same limits
pub record PartsAreSame (Same : Val → Val → Type 0) (ops all : List Operator) (m n : Meaning) : Type 0 where
  pub one_by_one : (primed : Bool) → AllZip (AlikeParts Same ops all) (parts primed m) (parts primed n)
  pub limited : (at : Place) → limits at m ≡ limits at n

abbrev pub AlikeHaveSameParts : (Val → Val → Type 0) → Type 0
AlikeHaveSameParts Same = (ops all : List Operator) (m n : Meaning) → AlikeMeanings Same ops all m n → PartsAreSame Same ops all m n

-- the first fault of a text is one
abbrev pub FirstFaultIsOne : Type 0
FirstFaultIsOne = (ops : List Operator) (e : Term) (x y : LevelFault) → IsFirst (IsFault ops e) x → IsFirst (IsFault ops e) y → x ≡ y

-- a text has one shape at most
abbrev pub ShapeIsOne : Type 0
ShapeIsOne = (ops : List Operator) (e init next first other : Term) → HasShape ops e init next → HasShape ops e first other → (init ≡ first) × (next ≡ other)
