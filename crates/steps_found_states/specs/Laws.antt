-- What is proved of walking an action: for each form, what its parts or what is evaluated for it make it find.
use Rattle.std.specs.Prelude.{replicate, ◌≡◌, ◌⊎◌, ◌<◌, ◌++◌, ℕ, suc, zero, false, true, List, [], ◌∷◌, length, Contains, Some, None, Result, Ok, Err, slice_get, slice_set}
use Rattle.base_core.specs.declared.place.Place.{Place}
use Rattle.values_core.specs.Data.{Val}
use Rattle.values_core.specs.IsValue.{IsValue}
use Rattle.values_core.specs.Sets.{items_of}
use Rattle.values_core.specs.declared.fault.EvalKind.TheVariants.{Nested}
use Rattle.states_core.specs.declared.fault.Fault.{Fault}
use Rattle.names_terms.specs.declared.operator.Operator.{Operator}
use Rattle.names_terms.specs.Terms.{Term, place_of}
use Rattle.values_sets.specs.DescribedSets.{Described}
use Rattle.values_sets.specs.Membership.{Belongs}
use Rattle.eval_meanings.specs.declared.fault.EvalFault.{EvalFault}
use Rattle.eval_meanings.specs.declared.fault.EvalFault.TheVariants.{Refused}
use Rattle.eval_meanings.specs.Contexts.{Context, Places}
use Rattle.eval_meanings.specs.Evaluates.{Evaluates, Describes}
use Rattle.eval_meanings.specs.Laws.{AreValues, HoldValues, KnowsValues}
use Rattle.eval_meanings.specs.Sets.{MeansSet, list_at}
use Rattle.eval_meanings.specs.Unchanged.{TruthOf, changed_of}
use Rattle.actions_meanings.specs.Forms.{Setting, Form, form, test, assign, choose, changing}
use Rattle.actions_meanings.specs.Reads.{VariableSet, in_none}
use Rattle.actions_meanings.specs.Outcomes.{Fixes}
use Rattle.actions_meanings.specs.Holds.{all_of, one_of}
use Rattle.logs_updates.specs.declared.update.See.{See}
use Rattle.actions_meanings.specs.Filled.{Fills, at_next}
use Rattle.actions_meanings.specs.Walkable.{Walkable}
use Rattle.steps_found_states.specs.Walks.{Agrees, FailsOf, HoldsOf, Walked}
use Rattle.steps_found_states.specs.Grounds.{Grounds, OpensFrom, TuplesFix}
use Rattle.steps_found_states.specs.Parts.{FixesAll, FoundEach, GroundsAll, IsOnTheWay, Leads, Parts, WalkedAll, WalkedAny, WalkedEach}
use Rattle.steps_found_states.specs.Filling.{AgreesAt, Gets}

-- of any action that the walk is asked about, with one evaluation more than its parts have
abbrev pub OfActions : (Setting → ℕ → List See → VariableSet → Places → Context → Term → Type 0) → Type 0
OfActions P = (g : Setting) (d : ℕ) (sees : List See) (B : VariableSet) (p : Places) (c : Context) (a : Term) → Grounds g (suc d) sees B p c a → P g d sees B p c a

abbrev pub form_of : Setting → Context → Term → Form
form_of g c a = form g (length c.slots) a

-- a test: the places themselves, nothing, or the fault
abbrev pub TestsAreFound : Type 0
TestsAreFound = OfActions (λ g d sees B p c a. form_of g c a ≡ test →
    (TruthOf (Evaluates g.table (suc d)) (at_next g.which c p) a (Ok true) → Walked g (suc d) sees B p c a (Ok (p ∷ [])))
    × (TruthOf (Evaluates g.table (suc d)) (at_next g.which c p) a (Ok false) → Walked g (suc d) sees B p c a (Ok []))
    × ((f : Fault) → TruthOf (Evaluates g.table (suc d)) (at_next g.which c p) a (Err f) → Walked g (suc d) sees B p c a (Err (Refused f.kind f.at))))

-- `x' = e`
abbrev pub AssignmentsAreFound : Type 0
AssignmentsAreFound = OfActions (λ g d sees B p c a. (x : ℕ) (e : Term) → form_of g c a ≡ assign x e →
    ((v : Val) (qs : List Places) → Evaluates g.table d (at_next g.which c p) e (Ok v) → Gets sees B p x (λ w. w ≡ v) qs → Walked g (suc d) sees B p c a (Ok qs))
    × ((f : Fault) → Evaluates g.table d (at_next g.which c p) e (Err f) → Walked g (suc d) sees B p c a (Err (Refused f.kind f.at))))

-- `x' \in S`: where x has no value yet the set must be one that can be listed
abbrev pub ChoicesOfValuesAreFound : Type 0
ChoicesOfValuesAreFound = OfActions (λ g d sees B p c a. (x : ℕ) (e : Term) → form_of g c a ≡ choose x e →
    ((S : Described) (qs : List Places) → MeansSet (Describes g.table d) (at_next g.which c p) e (Ok S) → (B x ≡ true) ⊎ ((u : Val) × list_at (place_of e) S (Ok u))
    → Gets sees B p x (Belongs S) qs → Walked g (suc d) sees B p c a (Ok qs))
    × ((f : Fault) → MeansSet (Describes g.table d) (at_next g.which c p) e (Err f) → Walked g (suc d) sees B p c a (Err (Refused f.kind f.at)))
    × ((S : Described) (f : Fault) → MeansSet (Describes g.table d) (at_next g.which c p) e (Ok S) → B x ≡ false → list_at (place_of e) S (Err f)
    → Walked g (suc d) sees B p c a (Err (Refused f.kind f.at))))

-- a form that opens: a fault of what is evaluated for it, or what its parts find, of which one holds or all do
abbrev pub OpeningsAreFound : Type 0
OpeningsAreFound = OfActions (λ g d sees B p c a.
    ((f : Fault) → OpensFrom g d c p (place_of a) (form_of g c a) (Err f) → Walked g (suc d) sees B p c a (Err (Refused f.kind f.at)))
    × ((es : Parts) (r : Result (List Places) EvalFault) → OpensFrom g d c p (place_of a) (form_of g c a) (Ok (one_of es)) → WalkedAny g d sees B p a es r → Walked g (suc d) sees B p c a r)
    × ((es : Parts) (r : Result (List Places) EvalFault) → OpensFrom g d c p (place_of a) (form_of g c a) (Ok (all_of es)) → WalkedAll g d sees B p es r → Walked g (suc d) sees B p c a r))

-- what the walk of the parts rests on
abbrev pub PartsAreGrounded : Type 0
PartsAreGrounded = OfActions (λ g d sees B p c a.
    ((es : Parts) (e : Context × Term) → OpensFrom g d c p (place_of a) (form_of g c a) (Ok (one_of es)) → Contains es e → Grounds g d sees B p e.0 e.1 × Leads g B a e.1)
    × ((es : Parts) → OpensFrom g d c p (place_of a) (form_of g c a) (Ok (all_of es)) → GroundsAll g d sees B p es × ((C : VariableSet) → Fixes g a B C → FixesAll g es B C)))

-- `<<A>>_v`: what A finds, of which it is tested that v changes
abbrev pub ChangesAreFound : Type 0
ChangesAreFound = OfActions (λ g d sees B p c a. (e v : Term) → form_of g c a ≡ changing e v →
    Grounds g d sees B p c e
    × ((f : EvalFault) → Walked g d sees B p c e (Err f) → Walked g (suc d) sees B p c a (Err f))
    × ((qs : List Places) (r : Result (List Places) EvalFault) → Walked g d sees B p c e (Ok qs)
    → ((D : VariableSet) → Fixes g e B D → FoundEach sees qs (λ C. C ≡ D) (HoldsOf g d c (changed_of (place_of a) v)) (FailsOf g d D c (changed_of (place_of a) v)) r) → Walked g (suc d) sees B p c a r))

-- with no evaluation left
abbrev pub NestedActionsAreFaults : Type 0
NestedActionsAreFaults = (g : Setting) (sees : List See) (B : VariableSet) (p : Places) (c : Context) (a : Term) → Grounds g zero sees B p c a → Walked g zero sees B p c a (Err (Refused Nested (place_of a)))

-- a choice is walked one part after the other, and what each finds is appended; the first fault is the whole's
abbrev pub ChoicesAreFound : Type 0
ChoicesAreFound = (g : Setting) (d : ℕ) (sees : List See) (B : VariableSet) (p : Places) (a : Term) → length p ≡ g.variables →
    WalkedAny g d sees B p a [] (Ok [])
    × ((es : Parts) (e : Context × Term) (qs rs : List Places) → Leads g B a e.1 → WalkedAny g d sees B p a es (Ok qs) → Walked g d sees B p e.0 e.1 (Ok rs)
    → WalkedAny g d sees B p a (es ++ e ∷ []) (Ok (qs ++ rs)))
    × ((es : Parts) (e : Context × Term) (f : EvalFault) → Contains es e → Walked g d sees B p e.0 e.1 (Err f) → WalkedAny g d sees B p a es (Err f))

-- all of several actions are walked one after the other, each from all places that those before it have found; the first fault is the whole's
abbrev pub ConjunctionsAreFound : Type 0
ConjunctionsAreFound = (g : Setting) (d : ℕ) (sees : List See) (B : VariableSet) (p : Places) →
    ((es : Parts) (C : VariableSet) → GroundsAll g d sees B p es → FixesAll g es B C → IsOnTheWay g d sees B p [] es (p ∷ []))
    × ((done : Parts) (e : Context × Term) (rest : Parts) (qs rs : List Places) → IsOnTheWay g d sees B p done (e ∷ rest) qs
    → ((D : VariableSet) → FixesAll g done B D → WalkedEach g d sees D qs e.0 e.1 (Ok rs)) → IsOnTheWay g d sees B p (done ++ e ∷ []) rest rs)
    × ((done : Parts) (e : Context × Term) (rest : Parts) (qs : List Places) (f : EvalFault) → IsOnTheWay g d sees B p done (e ∷ rest) qs
    → ((D : VariableSet) → FixesAll g done B D → WalkedEach g d sees D qs e.0 e.1 (Err f)) → WalkedAll g d sees B p (done ++ e ∷ rest) (Err f))

-- from several places an action is walked from each in turn
abbrev pub PlacesAreWalked : Type 0
PlacesAreWalked = (g : Setting) (d : ℕ) (sees : List See) (B : VariableSet) (c : Context) (a : Term) →
    WalkedEach g d sees B [] c a (Ok [])
    × ((ps : List Places) (q : Places) (rs ss : List Places) → WalkedEach g d sees B ps c a (Ok rs) → Walked g d sees B q c a (Ok ss) → WalkedEach g d sees B (ps ++ q ∷ []) c a (Ok (rs ++ ss)))
    × ((ps : List Places) (q : Places) (f : EvalFault) → Contains ps q → Walked g d sees B q c a (Err f) → WalkedEach g d sees B ps c a (Err f))

-- one value for a variable: it has it already, or another, or it gets it, if what is seen of it stands there and it is a value
abbrev pub ValuesAreGiven : Type 0
ValuesAreGiven = (sees : List See) (B : VariableSet) (p : Places) (x : ℕ) (v : Val) → Fills B p → Agrees sees p →
    (slice_get p x ≡ Some (Some v) → Gets sees B p x (λ w. w ≡ v) (p ∷ []))
    × ((u : Val) → slice_get p x ≡ Some (Some u) → ¬ (u ≡ v) → Gets sees B p x (λ w. w ≡ v) [])
    × (x < length p → slice_get p x ≡ Some None → AgreesAt sees x v → IsValue v → Gets sees B p x (λ w. w ≡ v) (slice_set p x (Some v) ∷ []))
    × (¬ AgreesAt sees x v → Gets sees B p x (λ w. w ≡ v) [])

-- a member of a set for a variable that has a value
abbrev pub MembersAreTested : Type 0
MembersAreTested = (sees : List See) (B : VariableSet) (p : Places) (x : ℕ) (S : Described) (v : Val) → Fills B p → Agrees sees p → slice_get p x ≡ Some (Some v) →
    (Belongs S v → Gets sees B p x (Belongs S) (p ∷ [])) × (¬ Belongs S v → Gets sees B p x (Belongs S) [])

-- each of several values in turn
abbrev pub ListedValuesAreGiven : Type 0
ListedValuesAreGiven = (sees : List See) (B : VariableSet) (p : Places) (x : ℕ) →
    Gets sees B p x (Contains []) []
    × ((vs : List Val) (v : Val) (qs rs : List Places) → Gets sees B p x (Contains vs) qs → Gets sees B p x (λ w. w ≡ v) rs → Gets sees B p x (Contains (vs ++ v ∷ [])) (qs ++ rs))
    × ((at : Place) (S : Described) (u : Val) (qs : List Places) → list_at at S (Ok u) → Gets sees B p x (Contains (items_of u)) qs → Gets sees B p x (Belongs S) qs)

-- where the whole value of the variable is seen, that value alone
abbrev pub SeenValuesAreGiven : Type 0
SeenValuesAreGiven = (sees : List See) (B : VariableSet) (p : Places) (x : ℕ) (S : Described) (see : See) → Contains sees see → see.path.variable.0 ≡ x → see.path.keys ≡ [] →
    ((qs : List Places) → Belongs S see.value → Gets sees B p x (λ w. w ≡ see.value) qs → Gets sees B p x (Belongs S) qs) × (¬ Belongs S see.value → Gets sees B p x (Belongs S) [])

-- where the slots, the state before and the known values of the terms are values, the walk of an action that can be walked rests on no more
abbrev pub WalksAreGrounded : Type 0
WalksAreGrounded = (g : Setting) (d : ℕ) (sees : List See) (B : VariableSet) (p : Places) (c : Context) (a : Term) →
    length p ≡ g.variables → Fills B p → Agrees sees p → AreValues c.slots → HoldValues c.now → KnowsValues a → ((k : ℕ) (o : Operator) → slice_get g.table k ≡ Some o → KnowsValues o.body)
    → Walkable g d B p c a → TuplesFix g d a → Grounds g d sees B p c a

-- at first, where no place has a value, no variable is filled, and what is seen stands against nothing
abbrev pub EmptyPlacesFillNone : Type 0
EmptyPlacesFillNone = (n : ℕ) (sees : List See) → Fills in_none (replicate n None) × Agrees sees (replicate n None)
