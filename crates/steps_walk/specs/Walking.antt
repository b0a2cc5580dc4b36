-- What the functions of the walk rest on, and what they answer: of every set of variables that may be the filled ones.
use Rattle.std.specs.Prelude.{◌≡◌, ◌≤◌, ℕ, List, [], ◌∷◌, ◌++◌, map, length, Contains, Result, Ok, Some, slice_get}
use Rattle.values_core.specs.Data.{Val}
use Rattle.states_core.specs.States.{Values}
use Rattle.names_terms.specs.declared.operator.Operator.{Operator}
use Rattle.names_terms.specs.Terms.{Term}
use Rattle.eval_meanings.specs.declared.fault.EvalFault.{EvalFault}
use Rattle.eval_meanings.specs.Contexts.{Context, Places, bind, enter}
use Rattle.eval_meanings.specs.Laws.{ReadsValues}
use Rattle.eval_meanings.specs.Unchanged.{unchanged_of}
use Rattle.actions_meanings.specs.Forms.{Form, Setting, form}
use Rattle.actions_meanings.specs.Reads.{VariableSet}
use Rattle.logs_updates.specs.declared.update.See.{See}
use Rattle.eval_meanings.specs.Reads.{Reads}
use Rattle.actions_meanings.specs.Filled.{Completes, Fills, at_next}
use Rattle.steps_found_states.specs.Walks.{Agrees, FailsOf, HoldsOf, Walked}
use Rattle.steps_found_states.specs.Grounds.{Grounds}
use Rattle.steps_found_states.specs.Parts.{FixesAll, FoundEach, GroundsAll, Leads, Parts, WalkedAll, WalkedAny, WalkedEach}
use Rattle.actions_rows.specs.Rows.{before, part_term, setting}
use Rattle.actions_rows.specs.declared.part.Part.{Part}
use Rattle.actions_rows.specs.declared.stage.Stage.{Stage}
use Rattle.steps_walk.specs.declared.found.Found.{Found}
use Rattle.steps_walk.specs.declared.found.Found.TheVariants as found
use Rattle.steps_walk.specs.declared.sense.Sense.{Sense}
use Rattle.steps_walk.specs.declared.sense.Sense.TheVariants as sense

-- the walk of a term has its grounds, where some set of variables is filled
abbrev pub Grounded : Setting → ℕ → List See → Places → Context → Term → Type 0
Grounded g d sees p c a = (B : VariableSet) × Grounds g d sees B p c a

-- what walking the term finds, or its fault, whichever set with these grounds is filled
abbrev pub IsWalked : Setting → ℕ → List See → Places → Context → Term → Result (List Places) EvalFault → Type 0
IsWalked g d sees p c a r = (B : VariableSet) → Grounds g d sees B p c a → Walked g d sees B p c a r

-- the places that are found
abbrev pub listed : Found → List Places
listed (found.One p) = p ∷ []
listed (found.Many ps) = ps.items

-- the term that a part is which a term is in this sense
abbrev pub in_sense : Sense → Term → Term
in_sense sense.Itself e = e
in_sense (sense.Unchanged at) e = unchanged_of at e

-- parts, each with these slots in scope
abbrev pub parts_of : Context → Sense → List Term → Parts
parts_of c s es = map (λ e. (c, in_sense s e)) es

-- all of them

abbrev pub AllGrounded : Setting → ℕ → List See → Places → Parts → Type 0
AllGrounded g d sees p es = (B : VariableSet) × GroundsAll g d sees B p es × ((C : VariableSet) × FixesAll g es B C)

abbrev pub AllWalked : Setting → ℕ → List See → Places → Parts → Result (List Places) EvalFault → Type 0
AllWalked g d sees p es r = (B C : VariableSet) → GroundsAll g d sees B p es → FixesAll g es B C → WalkedAll g d sees B p es r

-- one term, from each of several places

abbrev pub EachGrounded : Setting → ℕ → List See → List Places → Context → Term → Type 0
EachGrounded g d sees ps c a = (p : Places) → Contains ps p → Grounded g d sees p c a

abbrev pub EachWalked : Setting → ℕ → List See → List Places → Context → Term → Result (List Places) EvalFault → Type 0
EachWalked g d sees ps c a r = (B : VariableSet) → ((p : Places) → Contains ps p → Grounds g d sees B p c a) → WalkedEach g d sees B ps c a r

-- one of them, of a choice that a term is

abbrev pub AnyGrounded : Setting → ℕ → List See → Places → Parts → Type 0
AnyGrounded g d sees p es = (e : Context × Term) → Contains es e → Grounded g d sees p e.0 e.1

abbrev pub AnyWalked : Setting → ℕ → List See → Places → Parts → Result (List Places) EvalFault → Type 0
AnyWalked g d sees p es r =
    (B : VariableSet) (a : Term) → ((e : Context × Term) → Contains es e → Grounds g d sees B p e.0 e.1) → ((e : Context × Term) → Contains es e → Leads g B a e.1) → WalkedAny g d sees B p a es r

-- of a stage, with these slots

abbrev pub PartGrounded : Stage → List Val → ℕ → Places → Part → Type 0
PartGrounded s vs d p q = Grounded (setting s) d s.sees.now p (before s vs) (part_term q)

abbrev pub PartWalked : Stage → List Val → ℕ → Places → Part → Result (List Places) EvalFault → Type 0
PartWalked s vs d p q r = IsWalked (setting s) d s.sees.now p (before s vs) (part_term q) r

-- what walking the part finds comes behind what was found before
abbrev pub Adds : Stage → List Val → ℕ → Places → Part → List Places → List Places → Type 0
Adds s vs d p q old new = (more : List Places) × PartWalked s vs d p q (Ok more) × (new ≡ old ++ more)

-- the form that the part has
abbrev pub IsForm : Stage → List Val → Part → Form → Type 0
IsForm s vs q f = f ≡ form (setting s) (length vs) (part_term q)

-- the same term under each of the combinations
abbrev pub under : Context → Term → List (List Val) → Parts
under c e all = map (λ chosen. (bind c chosen, e)) all

-- the body of a definition on these values of its arguments

abbrev pub BodyGrounded : Setting → ℕ → List See → Places → Context → ℕ → List Val → Type 0
BodyGrounded g d sees p c k vs = (o : Operator) × (slice_get g.table k ≡ Some o) × (o.outer ≤ length c.slots) × Grounded g d sees p (enter o vs c) o.body

abbrev pub BodyWalked : Setting → ℕ → List See → Places → Context → ℕ → List Val → Result (List Places) EvalFault → Type 0
BodyWalked g d sees p c k vs r = (o : Operator) → slice_get g.table k ≡ Some o → IsWalked g d sees p (enter o vs c) o.body r

-- a test, which is no part of the text, in each of several places

abbrev pub EachReads : Setting → ℕ → List Places → Context → Term → Type 0
EachReads g d ps c a = (p : Places) → Contains ps p → Reads g.table d (at_next g.which c p) a

-- what such a test rests on, where just the variables of D are filled
pub record TestGrounds (g : Setting) (sees : List See) (D : VariableSet) (p : Places) (c : Context) (a : Term) : Type 0 where
  pub fills : Fills D p
  pub agrees : Agrees sees p
  pub values : (t : Values) → Completes p t → ReadsValues g.table (at_next g.which c (map Some t)) a

abbrev pub EachTested : Setting → ℕ → List See → List Places → Context → Term → Result (List Places) EvalFault → Type 0
EachTested g d sees ps c a r =
    (D : VariableSet) → ((p : Places) → Contains ps p → TestGrounds g sees D p c a) → FoundEach sees ps (λ C. C ≡ D) (HoldsOf g d c a) (FailsOf g d D c a) r
