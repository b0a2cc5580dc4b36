-- What a specification says can be evaluated, and its actions can be walked: each variable that is read on the way has a value by then.
use Rattle.std.specs.Prelude.{◌≡◌, ◌<◌, ◌+◌, ℕ, Bool, true, false, length, Some, None, slice_get}
use Rattle.names_terms.specs.declared.level.Level.{Level}
use Rattle.names_terms.specs.declared.level.Level.TheVariants.{State, Action}
use Rattle.names_terms.specs.declared.operator.Operator.{Operator}
use Rattle.names_terms.specs.Terms.{Term, level_of}
use Rattle.names_term_parts.specs.Slots.{Mentions}
use Rattle.eval_meanings.specs.Contexts.{Context, Places, Table}
use Rattle.eval_meanings.specs.Reads.{Knows, Reads}
use Rattle.actions_meanings.specs.declared.which.Which.{Which}
use Rattle.actions_meanings.specs.declared.which.Which.TheVariants as which
use Rattle.actions_meanings.specs.Forms.{Setting}
use Rattle.actions_meanings.specs.Outcomes.{Fixes, early}
use Rattle.actions_meanings.specs.Reads.{Ends, VariableSet, reads}
use Rattle.actions_meanings.specs.Filled.{Fills}
use Rattle.actions_meanings.specs.Walkable.{Walkable}
use Rattle.names_specification_laws.specs.IsSpec.{IsTerm, IsAtMost}

-- the term mentions the definition, or the body of one does that the term reaches
pub data Reaches (ops : Table) (e : Term) : ℕ → Type 0 where
  in_term : (k : ℕ) → Mentions e k → Reaches ops e k
  in_reached : (j : ℕ) (o : Operator) (k : ℕ) → Reaches ops e j → slice_get ops j ≡ Some o → Mentions o.body k → Reaches ops e k

-- a term in order, with so many slots around it, and no temporal formula; each definition that it reaches is in order
pub record IsOrderly (variables : ℕ) (ops : Table) (n : ℕ) (e : Term) : Type 0 where
  pub term : IsTerm variables ops n e
  pub level : IsAtMost Action e
  pub bodies : (k : ℕ) (o : Operator) → Reaches ops e k → slice_get ops k ≡ Some o → IsTerm variables ops (o.outer + o.params) o.body × (o.level ≡ level_of o.body)

-- each variable that the term reads has a value: in Init of the state that is made, and in an action of that state where it is read under a prime,
-- and of the state before in any case
abbrev pub KnowsRead : Which → ℕ → Table → Context → Term → Type 0
KnowsRead which.Init variables ops c e = (c.now ≡ c.next) × ((k x : ℕ) → reads ops k true e x ≡ true → Knows c.next x)
KnowsRead which.Action variables ops c e = ((x : ℕ) → x < variables → Knows c.now x) × ((k x : ℕ) → reads ops k false e x ≡ true → Knows c.next x)

-- a term in order can be evaluated where each variable that it reads has a value
abbrev pub TermsCanBeEvaluated : Type 0
TermsCanBeEvaluated =
    (w : Which) (variables : ℕ) (ops : Table) (d n : ℕ) (c : Context) (e : Term) → IsOrderly variables ops n e → length c.slots ≡ n → KnowsRead w variables ops c e → Reads ops d c e

-- whether all that a term reads is read of the state that is made
abbrev pub is_init : Which → Bool
is_init which.Init = true
is_init which.Action = false

-- where nothing that it reads of the state that is made comes too early, all that it reads of it is fixed
abbrev pub NothingEarlyIsKnown : Type 0
NothingEarlyIsKnown =
    (g : Setting) (B : VariableSet) (n k : ℕ) (e : Term) → IsOrderly g.variables g.table n e → Ends g.table k e → early g B k e ≡ None → (j x : ℕ) → reads g.table j (is_init g.which) e x ≡ true → B x ≡ true

-- the level that Init or an action may have
abbrev pub highest : Which → Level
highest which.Init = State
highest which.Action = Action

-- in an action the state before is known
abbrev pub KnowsBefore : Which → ℕ → Context → Type 0
KnowsBefore which.Init variables c = Unit {0}
KnowsBefore which.Action variables c = (x : ℕ) → x < variables → Knows c.now x

-- an action in order that has a form can be walked, within any number of evaluations, where just the variables that were fixed before are filled
abbrev pub ActionsCanBeWalked : Type 0
ActionsCanBeWalked =
    (g : Setting) (d n : ℕ) (B C : VariableSet) (p : Places) (c : Context) (a : Term) → IsOrderly g.variables g.table n a → IsAtMost (highest g.which) a → length c.slots ≡ n → KnowsBefore g.which g.variables c → length p ≡ g.variables → Fills B p → Fixes g a B C → Walkable g d B p c a
