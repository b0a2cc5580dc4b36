-- What walking several actions finds: of which all must hold, one after the other, or one of them.
use Rattle.std.specs.Prelude.{◌≡◌, ◌⊎◌, ℕ, List, [], ◌∷◌, map, length, Any, Contains, Some, Result, Ok, Err}
use Rattle.std.specs.List.{AllByRecursion}
use Rattle.states_core.specs.States.{Values}
use Rattle.states_core.specs.declared.fault.Fault.{Fault}
use Rattle.names_terms.specs.Terms.{Term}
use Rattle.eval_meanings.specs.declared.fault.EvalFault.{EvalFault}
use Rattle.eval_meanings.specs.declared.fault.EvalFault.TheVariants.{Refused, NoMemory}
use Rattle.eval_meanings.specs.Contexts.{Context, Places}
use Rattle.eval_meanings.specs.Laws.{IsWithin, ReadsValues}
use Rattle.eval_meanings.specs.Outcomes.{fault}
use Rattle.actions_meanings.specs.Forms.{Setting}
use Rattle.actions_meanings.specs.Reads.{VariableSet}
use Rattle.actions_meanings.specs.Outcomes.{Fixes}
use Rattle.logs_updates.specs.declared.update.See.{See}
use Rattle.steps_lines_defs.specs.Asks.{AreSeen}
use Rattle.actions_meanings.specs.Filled.{Completes, Fills, at_next}
use Rattle.actions_meanings.specs.Walkable.{Walkable, Walking}
use Rattle.steps_found_states.specs.Walks.{Agrees, FailsOf, Found, HoldsOf, Meets, StaysPossible}
use Rattle.steps_found_states.specs.Grounds.{TuplesFix}

-- actions, each in its context
abbrev pub Parts : Type 0
Parts = List (Context × Term)

-- From any of several places, of a fact and faults of whole states: the places that are found.
pub record FindsEach (sees : List See) (ps : List Places) (fixes : VariableSet → Type 0) (H : Values → Type 0) (F : Values → Fault → Type 0) (qs : List Places) : Type 0 where
  pub further : (q : Places) → Contains qs q → (p : Places) × Contains ps p × (length q ≡ length p) × IsWithin p q × StaysPossible p q
  pub agree : (q : Places) → Contains qs q → Agrees sees q
  pub filled : (q : Places) (C : VariableSet) → Contains qs q → fixes C → Fills C q
  pub sound : (q : Places) (t : Values) → Contains qs q → Completes q t → H t
  pub full : (p : Places) (t : Values) → Contains ps p → Completes p t → AreSeen sees t → H t → (q : Places) × Contains qs q × Completes q t
  pub clean : (p : Places) (t : Values) (f : Fault) → Contains ps p → Completes p t → AreSeen sees t → F t f → ⊥

abbrev pub FoundEach : List See → List Places → (VariableSet → Type 0) → (Values → Type 0) → (Values → Fault → Type 0) → Result (List Places) EvalFault → Type 0
FoundEach sees ps fixes H F (Ok qs) = FindsEach sees ps fixes H F qs
FoundEach sees ps fixes H F (Err (Refused kind at)) = (p : Places) × Contains ps p × Meets sees p F (fault kind at)
FoundEach sees ps fixes H F (Err NoMemory) = Unit {0}

-- from each of these places, where just the variables of B have a value, what walking the action finds
abbrev pub WalkedEach : Setting → ℕ → List See → VariableSet → List Places → Context → Term → Result (List Places) EvalFault → Type 0
WalkedEach g d sees B ps c a r = FoundEach sees ps (Fixes g a B) (HoldsOf g d c a) (FailsOf g d B c a) r

-- run one after the other where B is fixed, they leave just C fixed
abbrev pub FixesAll : Setting → Parts → VariableSet → VariableSet → Type 0
FixesAll g [] B C = C ≡ B
FixesAll g (e ∷ es) B C = (D : VariableSet) × Fixes g e.1 B D × FixesAll g es D C

abbrev pub HoldsAll : Setting → ℕ → Parts → Values → Type 0
HoldsAll g d es t = AllByRecursion (λ e. HoldsOf g d e.0 e.1 t) es

-- a fault of one of them, where those before it hold, from the set that these leave
abbrev pub FailsAll : Setting → ℕ → VariableSet → Parts → Values → Fault → Type 0
FailsAll g d B [] t f = ⊥
FailsAll g d B (e ∷ es) t f = FailsOf g d B e.0 e.1 t f ⊎ (HoldsOf g d e.0 e.1 t × ((C : VariableSet) × Fixes g e.1 B C × FailsAll g d C es t f))

-- what walking all of them finds
abbrev pub WalkedAll : Setting → ℕ → List See → VariableSet → Places → Parts → Result (List Places) EvalFault → Type 0
WalkedAll g d sees B p es r = Found sees p (FixesAll g es B) (HoldsAll g d es) (FailsAll g d B es) r

-- one after another: the later ones from whatever those before may leave
abbrev pub PartsWalk : Setting → Walking → VariableSet → Places → Parts → Type 0
PartsWalk g part B p [] = Unit {0}
PartsWalk g part B p (e ∷ es) =
    part B p e.0 e.1 × ((C : VariableSet) (q : Places) → Fixes g e.1 B C → length q ≡ length p → IsWithin p q → Fills C q → PartsWalk g part C q es)

-- what walking all of them from p rests on
pub record GroundsAll (g : Setting) (d : ℕ) (sees : List See) (B : VariableSet) (p : Places) (es : Parts) : Type 0 where
  pub long : length p ≡ g.variables
  pub fills : Fills B p
  pub agrees : Agrees sees p
  pub reads : (t : Values) → Completes p t → AllByRecursion (λ e. ReadsValues g.table (at_next g.which e.0 (map Some t)) e.1) es
  pub walks : PartsWalk g (Walkable g d) B p es
  pub tuples : AllByRecursion (λ e. TuplesFix g d e.1) es

-- On the way through actions that must all hold: what the first of them, which are done, have found, and what the walk of the rest rests on.
pub record IsOnTheWay (g : Setting) (d : ℕ) (sees : List See) (B : VariableSet) (p : Places) (done rest : Parts) (qs : List Places) : Type 0 where
  pub found : WalkedAll g d sees B p done (Ok qs)
  pub left : (D : VariableSet) × FixesAll g done B D × ((C : VariableSet) × FixesAll g rest D C)
  pub grounds : (D : VariableSet) (q : Places) → FixesAll g done B D → Contains qs q → GroundsAll g d sees D q rest

-- Of a choice among parts of the action a.

abbrev pub HoldsAny : Setting → ℕ → Parts → Values → Type 0
HoldsAny g d es t = Any (λ e. HoldsOf g d e.0 e.1 t) es

abbrev pub FailsAny : Setting → ℕ → VariableSet → Parts → Values → Fault → Type 0
FailsAny g d B es t f = Any (λ e. FailsOf g d B e.0 e.1 t f) es

-- what walking each of them finds
abbrev pub WalkedAny : Setting → ℕ → List See → VariableSet → Places → Term → Parts → Result (List Places) EvalFault → Type 0
WalkedAny g d sees B p a es r = Found sees p (Fixes g a B) (HoldsAny g d es) (FailsAny g d B es) r

-- what fills all that the part e leaves fixed fills all that the action leaves fixed
abbrev pub Leads : Setting → VariableSet → Term → Term → Type 0
Leads g B a e = (C : VariableSet) → Fixes g a B C → (D : VariableSet) × Fixes g e B D × ((q : Places) → length q ≡ g.variables → Fills D q → Fills C q)
