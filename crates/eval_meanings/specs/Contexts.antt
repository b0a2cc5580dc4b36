-- What a term is evaluated in: the values of the parameters and bound names in scope, by their slots, the outermost first; the state in which
-- variables are read, and the one in which primed variables are read. Of a state some values may be unknown: it has a place for each variable,
-- empty or with the variable's value. What reads an unknown value has no outcome.
use Rattle.std.specs.Prelude.{◌≡◌, ℕ, List, Option, ◌++◌, take, Some, Ok, slice_get}
use Rattle.values_core.specs.Data.{Val}
use Rattle.names_terms.specs.declared.operator.Operator.{Operator}
use Rattle.names_terms.specs.Terms.{Term}
use Rattle.eval_meanings.specs.Outcomes.{Outcome}
use Rattle.values_sets.specs.DescribedSets.{Described}

-- the places of a state
abbrev pub Places : Type 0
Places = List (Option Val)

pub record Context : Type 0 where
  pub slots : List Val
  pub now : Places
  pub next : Places

-- with the values of names that are bound further in
abbrev pub bind : Context → List Val → Context
bind c vs = record { slots = c.slots ++ vs; now = c.now; next = c.next }

-- with the outermost slots alone, so many of them
abbrev pub within : ℕ → Context → Context
within n c = record { slots = take n c.slots; now = c.now; next = c.next }

-- under a prime
abbrev pub primed : Context → Context
primed c = record { slots = c.slots; now = c.next; next = c.next }

-- in the body of a definition: the slots around it, which are those of its LET, and its arguments
abbrev pub enter : Operator → List Val → Context → Context
enter o vs c = record { slots = take o.outer c.slots ++ vs; now = c.now; next = c.next }

-- the definitions of a specification, by their numbers
abbrev pub Table : Type 0
Table = List Operator

-- how the parts of a term are evaluated, and how they are described as sets
abbrev pub Evaluate : Type 1
Evaluate = Context → Term → Outcome Val

abbrev pub Describe : Type 1
Describe = Context → Term → Outcome Described

-- the value of that number in a list
abbrev pub IsAt : List Val → ℕ → Outcome Val
IsAt vs i r = (v : Val) × (slice_get vs i ≡ Some v) × (r ≡ Ok v)

-- the value of that variable in a state
abbrev pub IsKnown : Places → ℕ → Outcome Val
IsKnown places x r = (v : Val) × (slice_get places x ≡ Some (Some v)) × (r ≡ Ok v)

-- the definition of that number, and what comes of it
abbrev pub WithDefinition : {A : Type 0} → Table → ℕ → (Operator → Outcome A) → Outcome A
WithDefinition ops k P r = (o : Operator) × (slice_get ops k ≡ Some o) × P o r
