-- For the prover: what the functions that decide rest on, and what they answer of each state that completes the next places.
use Rattle.std.specs.Prelude.{◌≡◌, ◌≤◌, ℕ, Bool, true, false, List, [], map, length, Contains, Some, Result, Ok, Err, slice_get}
use Rattle.values_core.specs.Data.{Val}
use Rattle.states_core.specs.States.{Values}
use Rattle.states_core.specs.declared.fault.Fault.{Fault}
use Rattle.names_terms.specs.declared.operator.Operator.{Operator}
use Rattle.names_terms.specs.Terms.{Term}
use Rattle.eval_meanings.specs.declared.fault.EvalFault.{EvalFault}
use Rattle.eval_meanings.specs.declared.fault.EvalFault.TheVariants.{Refused, NoMemory}
use Rattle.eval_meanings.specs.Contexts.{Context, Places, bind, enter}
use Rattle.eval_meanings.specs.Outcomes.{fault}
use Rattle.actions_meanings.specs.Forms.{Form, Setting, form}
use Rattle.actions_meanings.specs.Reads.{VariableSet}
use Rattle.actions_meanings.specs.Filled.{Completes}
use Rattle.steps_found_states.specs.Walks.{FailsOf, HoldsOf}
use Rattle.steps_found_states.specs.Grounds.{Grounds}
use Rattle.steps_found_states.specs.Parts.{FailsAll, FailsAny, FixesAll, GroundsAll, HoldsAll, HoldsAny, Parts}
use Rattle.actions_rows.specs.Rows.{part_term}
use Rattle.actions_rows.specs.declared.part.Part.{Part}
use Rattle.judge_truth.specs.Pairs.{at, setting}
use Rattle.judge_truth.specs.Truths.{AreStates, everything}
use Rattle.judge_truth.specs.declared.pair.Pair.{Pair}
use Rattle.judge_truth.specs.declared.told.Told.{Told}
use Rattle.judge_truth.specs.declared.told.Told.TheVariants as told

-- a fact that holds or does not, without faults; or a fault
abbrev pub Answered : Type 0 → (Fault → Type 0) → Result Bool EvalFault → Type 0
Answered H F (Ok true) = H × ((f : Fault) → ¬ F f)
Answered H F (Ok false) = ¬ H × ((f : Fault) → ¬ F f)
Answered H F (Err (Refused kind at)) = F (fault kind at)
Answered H F (Err NoMemory) = Unit {0}

-- one term

abbrev pub Grounded : Setting → ℕ → Places → Context → Term → Type 0
Grounded g d p c a = Grounds g d [] everything p c a

abbrev pub IsDecided : Setting → ℕ → Places → Context → Term → Result Bool EvalFault → Type 0
IsDecided g d p c a r = (t : Values) → Completes p t → Grounded g d p c a → Answered (HoldsOf g d c a t) (FailsOf g d everything c a t) r

-- in a context of two states

abbrev pub Ready : Setting → ℕ → Context → Term → Type 0
Ready g d c a = AreStates g.which c.now c.next × Grounded g d c.next c a

abbrev pub PartReady : Pair → ℕ → Part → Type 0
PartReady s d q = Ready (setting s) d (at s) (part_term q)

abbrev pub PartDecided : Pair → ℕ → Part → Result Bool EvalFault → Type 0
PartDecided s d q r = IsDecided (setting s) d (at s).next (at s) (part_term q) r

-- the form that the part has
abbrev pub IsForm : Pair → Part → Form → Type 0
IsForm s q f = f ≡ form (setting s) (length (at s).slots) (part_term q)

-- parts, each in this context
abbrev pub parts_at : Context → List Part → Parts
parts_at c qs = map (λ q. (c, part_term q)) qs

-- all of several

abbrev pub AllReady : Setting → ℕ → Context → Parts → Type 0
AllReady g d c es = AreStates g.which c.now c.next × (GroundsAll g d [] everything c.next es × ((C : VariableSet) × FixesAll g es everything C))

abbrev pub AllDecided : Setting → ℕ → Places → Parts → Result Bool EvalFault → Type 0
AllDecided g d p es r = (t : Values) → Completes p t → GroundsAll g d [] everything p es → Answered (HoldsAll g d es t) (FailsAll g d everything es t) r

-- one of several

abbrev pub EachGrounded : Setting → ℕ → Places → Parts → Type 0
EachGrounded g d p es = (e : Context × Term) → Contains es e → Grounded g d p e.0 e.1

abbrev pub AnyReady : Setting → ℕ → Context → Parts → Type 0
AnyReady g d c es = AreStates g.which c.now c.next × EachGrounded g d c.next es

abbrev pub AnyDecided : Setting → ℕ → Places → Parts → Result Bool EvalFault → Type 0
AnyDecided g d p es r = (t : Values) → Completes p t → EachGrounded g d p es → Answered (HoldsAny g d es t) (FailsAny g d everything es t) r

-- the same term under each of the combinations
abbrev pub under : Context → Term → List (List Val) → Parts
under c e all = map (λ chosen. (bind c chosen, e)) all

-- the body of a definition on these values of its arguments

abbrev pub BodyReady : Setting → ℕ → Context → ℕ → List Val → Type 0
BodyReady g d c k vs = AreStates g.which c.now c.next × ((o : Operator) × (slice_get g.table k ≡ Some o) × (o.outer ≤ length c.slots) × Grounded g d c.next (enter o vs c) o.body)

abbrev pub BodyDecided : Setting → ℕ → Context → ℕ → List Val → Result Bool EvalFault → Type 0
BodyDecided g d c k vs r = (o : Operator) → slice_get g.table k ≡ Some o → IsDecided g d c.next (enter o vs c) o.body r

-- what is told of a fault of an evaluation
abbrev pub IsToldFault : EvalFault → Told → Type 0
IsToldFault (Refused kind at) r = r ≡ told.Faults (fault kind at)
IsToldFault NoMemory r = ⊥
