-- What is wrong with the levels of a term is decided, and so is the shape of the body of SPECIFICATION: laws. Over each table, also where definitions use
-- themselves.
use Rattle.std.specs.Prelude.{◌⊎◌, ℕ, List}
use Rattle.names_terms.specs.declared.operator.Operator.{Operator}
use Rattle.names_terms.specs.Terms.{Term}
use Rattle.names_term_parts.specs.declared.fault.LevelFault.{LevelFault}
use Rattle.names_term_parts.specs.Slots.{IsPrimed, Occurs}
use Rattle.names_term_levels.specs.Faults.{IsFault, IsFirst}
use Rattle.names_term_levels.specs.Shape.{HasShape, IsFair}

-- a slot stands in a term or does not, and so it is under a prime
abbrev pub SlotsAreDecided : Type 0
SlotsAreDecided = (ops : List Operator) (e : Term) (i : ℕ) → (Occurs ops e i ⊎ (¬ Occurs ops e i)) × (IsPrimed ops e i ⊎ (¬ IsPrimed ops e i))

-- nothing is wrong with the levels in a term, or there is a first thing
abbrev pub FaultsHaveFirst : Type 0
FaultsHaveFirst = (ops : List Operator) (e : Term) → ((f : LevelFault) → ¬ IsFault ops e f) ⊎ ((f : LevelFault) × IsFirst (IsFault ops e) f)

-- a term means fairness or does not, and a body gives some Init and Next or none
abbrev pub ShapesAreDecided : Type 0
ShapesAreDecided =
    (ops : List Operator) (e : Term) → (IsFair ops e ⊎ (¬ IsFair ops e)) × (((init next : Term) → ¬ HasShape ops e init next) ⊎ ((init next : Term) × HasShape ops e init next))
