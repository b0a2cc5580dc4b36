-- What a term of an instance says of a state is what the term of its module says of the state that the module sees there: laws.
use Rattle.std.specs.Prelude.{◌≡◌, ◌↔◌, ℕ, Result}
use Rattle.values_core.specs.Data.{Val}
use Rattle.states_core.specs.declared.fault.Fault.{Fault}
use Rattle.names_terms.specs.Terms.{Term}
use Rattle.names_term_parts.specs.Slots.{UsesSmaller}
use Rattle.values_sets.specs.DescribedSets.{Described}
use Rattle.eval_meanings.specs.Contexts.{Context, Table}
use Rattle.eval_meanings.specs.Evaluates.{Evaluates, Describes}
use Rattle.actions_meanings.specs.Forms.{Setting}
use Rattle.actions_meanings.specs.Holds.{Holds}
use Rattle.twice_instances.specs.Alikeness.{Like}
use Rattle.twice_instances.specs.Seen.{IsSubstitute, seen_in, seen_through}

-- The term i of an instance over the definitions of its program, and the term a of the module over its own: they differ by numbers of definitions, and by
-- variables, where i has the substitute of what a has. Several variables may have one substitute.
abbrev pub IsInstanceOf : (ℕ → ℕ) → ℕ → Table → Table → Term → Term → Type 0
IsInstanceOf substitute n ops all a i = Like (IsSubstitute substitute n) ops all a i

-- the same values, and the same faults
abbrev pub InstanceEvaluates : Type 0
InstanceEvaluates =
    (substitute : ℕ → ℕ) (n : ℕ) (ops all : Table) → UsesSmaller ops → UsesSmaller all → (a i : Term) → IsInstanceOf substitute n ops all a i
    → (d : ℕ) (c : Context) (r : Result Val Fault) → Evaluates all d c i r ↔ Evaluates ops d (seen_in (seen_through substitute n) c) a r

-- the same described sets, and the same faults
abbrev pub InstanceDescribes : Type 0
InstanceDescribes =
    (substitute : ℕ → ℕ) (n : ℕ) (ops all : Table) → UsesSmaller ops → UsesSmaller all → (a i : Term) → IsInstanceOf substitute n ops all a i
    → (d : ℕ) (c : Context) (r : Result Described Fault) → Describes all d c i r ↔ Describes ops d (seen_in (seen_through substitute n) c) a r

-- as an action it holds of the same two states
abbrev pub InstanceHolds : Type 0
InstanceHolds =
    (substitute : ℕ → ℕ) (n : ℕ) (g h : Setting) → g.which ≡ h.which → UsesSmaller g.table → UsesSmaller h.table → (a i : Term)
    → IsInstanceOf substitute n g.table h.table a i → (d : ℕ) (c : Context) → Holds h d c i ↔ Holds g d (seen_in (seen_through substitute n) c) a
