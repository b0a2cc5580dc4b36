-- What walking an action from a partly filled next state finds: further filled ones, which hold just the states that the action allows.
use Rattle.std.specs.Prelude.{◌≡◌, ℕ, List, map, length, All, Contains, Some, Result, Ok, Err, slice_get}
use Rattle.values_core.specs.Data.{Val}
use Rattle.states_core.specs.States.{Values}
use Rattle.states_core.specs.declared.fault.Fault.{Fault}
use Rattle.names_terms.specs.Terms.{Term}
use Rattle.eval_meanings.specs.declared.fault.EvalFault.{EvalFault}
use Rattle.eval_meanings.specs.declared.fault.EvalFault.TheVariants.{Refused, NoMemory}
use Rattle.eval_meanings.specs.Contexts.{Context, Places}
use Rattle.eval_meanings.specs.Laws.{IsWithin}
use Rattle.eval_meanings.specs.Outcomes.{fault}
use Rattle.actions_meanings.specs.Forms.{Setting}
use Rattle.actions_meanings.specs.Reads.{VariableSet}
use Rattle.actions_meanings.specs.Outcomes.{Fixes}
use Rattle.actions_meanings.specs.Holds.{Holds}
use Rattle.actions_meanings.specs.Fails.{Fails}
use Rattle.logs_updates.specs.Changes.{LeadsTo}
use Rattle.logs_updates.specs.declared.update.See.{See}
use Rattle.steps_lines_defs.specs.Asks.{AreSeen}
use Rattle.actions_meanings.specs.Filled.{Completes, Fills, at_next}

-- what is seen of a variable that has a value stands at its path
abbrev pub Agrees : List See → Places → Type 0
Agrees sees p = All (λ see. (v : Val) → slice_get p see.path.variable.0 ≡ Some (Some v) → LeadsTo see.path.keys v see.value) sees

-- where some state completes the first places, one completes the others too
abbrev pub StaysPossible : Places → Places → Type 0
StaysPossible p q = (u : Values) → Completes p u → (t : Values) × Completes q t

-- From p, of a fact and faults of whole states: the places that are found, where the variables of each set in `fixes` are those that are filled then.
-- They hold just the states with what is seen of which the fact holds, and none of these states has a fault.
pub record Finds (sees : List See) (p : Places) (fixes : VariableSet → Type 0) (H : Values → Type 0) (F : Values → Fault → Type 0) (qs : List Places) : Type 0 where
  pub further : (q : Places) → Contains qs q → (length q ≡ length p) × IsWithin p q × StaysPossible p q
  pub agree : (q : Places) → Contains qs q → Agrees sees q
  pub filled : (q : Places) (C : VariableSet) → Contains qs q → fixes C → Fills C q
  pub sound : (q : Places) (t : Values) → Contains qs q → Completes q t → H t
  pub full : (t : Values) → Completes p t → AreSeen sees t → H t → (q : Places) × Contains qs q × Completes q t
  pub clean : (t : Values) (f : Fault) → Completes p t → AreSeen sees t → F t f → ⊥

-- The fault is one that each state has that completes some further filled places, which agree with what is seen; and there is such a state, where one
-- completes p.
abbrev pub Meets : List See → Places → (Values → Fault → Type 0) → Fault → Type 0
Meets sees p F f = (q : Places) × (length q ≡ length p) × IsWithin p q × Agrees sees q × ((t : Values) → Completes q t → F t f) × StaysPossible p q

abbrev pub Found : List See → Places → (VariableSet → Type 0) → (Values → Type 0) → (Values → Fault → Type 0) → Result (List Places) EvalFault → Type 0
Found sees p fixes H F (Ok qs) = Finds sees p fixes H F qs
Found sees p fixes H F (Err (Refused kind at)) = Meets sees p F (fault kind at)
Found sees p fixes H F (Err NoMemory) = Unit {0}

-- what the action says of a whole state, which stands in the context as the state that is made
abbrev pub HoldsOf : Setting → ℕ → Context → Term → Values → Type 0
HoldsOf g d c a t = Holds g d (at_next g.which c (map Some t)) a

abbrev pub FailsOf : Setting → ℕ → VariableSet → Context → Term → Values → Fault → Type 0
FailsOf g d B c a t f = Fails g d B (at_next g.which c (map Some t)) a f

-- From p, where just the variables of B have a value: what walking the action finds.
abbrev pub Walked : Setting → ℕ → List See → VariableSet → Places → Context → Term → Result (List Places) EvalFault → Type 0
Walked g d sees B p c a r = Found sees p (Fixes g a B) (HoldsOf g d c a) (FailsOf g d B c a) r
