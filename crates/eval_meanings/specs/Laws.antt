-- What holds of the definition of evaluation: a term has at most one outcome in given states, it keeps it where more values are known, and what
-- it has is a value.
use Rattle.std.specs.Prelude.{◌≡◌, ℕ, List, Contains, Some, Result, Ok, slice_get}
use Rattle.values_core.specs.Data.{Val}
use Rattle.values_core.specs.IsValue.{IsValue}
use Rattle.states_core.specs.declared.fault.Fault.{Fault}
use Rattle.names_terms.specs.declared.operator.Operator.{Operator}
use Rattle.names_terms.specs.Terms as term
use Rattle.names_terms.specs.Terms.{Term, Meaning}
use Rattle.values_sets.specs.DescribedSets.{Described}
use Rattle.eval_meanings.specs.Contexts.{Context, Places, Table}
use Rattle.eval_meanings.specs.Everywhere.{Everywhere}
use Rattle.eval_meanings.specs.Evaluates.{Evaluates, Describes}

abbrev pub AreValues : List Val → Type 0
AreValues vs = (v : Val) → Contains vs v → IsValue v

abbrev pub HoldValues : Places → Type 0
HoldValues places = (v : Val) → Contains places (Some v) → IsValue v

-- what is written as a known value is a value
abbrev pub KnowsValue : Meaning → Type 0
KnowsValue (term.Known v) = IsValue v
KnowsValue m = Unit {0}

abbrev pub KnowsValues : Term → Type 0
KnowsValues e = Everywhere KnowsValue e

-- all that a term may read is a value
pub record ReadsValues (ops : Table) (c : Context) (e : Term) : Type 0 where
  pub slots : AreValues c.slots
  pub now : HoldValues c.now
  pub next : HoldValues c.next
  pub known : KnowsValues e
  pub definitions : (k : ℕ) (o : Operator) → slice_get ops k ≡ Some o → KnowsValues o.body

-- a term has at most one outcome
abbrev pub HasOneOutcome : Type 0
HasOneOutcome = (ops : Table) (d : ℕ) (c : Context) (e : Term) → ReadsValues ops c e → (r q : Result Val Fault) → Evaluates ops d c e r → Evaluates ops d c e q → r ≡ q

-- and at most one description
abbrev pub HasOneDescription : Type 0
HasOneDescription = (ops : Table) (d : ℕ) (c : Context) (e : Term) → ReadsValues ops c e → (r q : Result Described Fault) → Describes ops d c e r → Describes ops d c e q → r ≡ q

-- what a term evaluates to is a value
abbrev pub GivesOnlyValues : Type 0
GivesOnlyValues = (ops : Table) (d : ℕ) (c : Context) (e : Term) → ReadsValues ops c e → (v : Val) → Evaluates ops d c e (Ok v) → IsValue v

-- each value that is known in the one state is known in the other
abbrev pub IsWithin : Places → Places → Type 0
IsWithin p q = (x : ℕ) (v : Val) → slice_get p x ≡ Some (Some v) → slice_get q x ≡ Some (Some v)

-- a term keeps its outcome where more values are known
abbrev pub KeepsOutcome : Type 0
KeepsOutcome =
    (ops : Table) (d : ℕ) (c b : Context) (e : Term) → c.slots ≡ b.slots → IsWithin c.now b.now → IsWithin c.next b.next → (r : Result Val Fault) → Evaluates ops d c e r → Evaluates ops d b e r
