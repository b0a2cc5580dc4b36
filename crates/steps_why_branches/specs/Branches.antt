-- The branches of an action from a next state that is partly filled: a branch goes through the action from left to right, chooses an arm at each `\/`,
-- members at each `\E` and at each `x' \in S` where x has no value yet, and ends where a part can not hold, or behind the last. A test that is false,
-- and a variable with another value, is passed over where it may be; where nothing may be, these are the branches by themselves.
use Rattle.std.specs.Prelude.{◌≡◌, ◌⊎◌, ℕ, zero, suc, Bool, true, false, List, [], ◌∷◌, Any, Option, Some, None, Result, Ok, Err, slice_get, slice_set, length}
use Rattle.base_core.specs.declared.place.Place.{Place}
use Rattle.values_core.specs.Data.{Val}
use Rattle.values_core.specs.Sets.{items_of}
use Rattle.values_core.specs.declared.fault.EvalKind.TheVariants.{Nested}
use Rattle.states_core.specs.declared.fault.Fault.{Fault}
use Rattle.names_terms.specs.Terms.{Term, place_of}
use Rattle.values_sets.specs.DescribedSets.{Described}
use Rattle.values_sets.specs.Membership.{Belongs}
use Rattle.eval_meanings.specs.Contexts.{Context, Places}
use Rattle.eval_meanings.specs.Evaluates.{Evaluates, Describes}
use Rattle.eval_meanings.specs.Outcomes.{fault}
use Rattle.eval_meanings.specs.Sets.{MeansSet, list_at}
use Rattle.eval_meanings.specs.Unchanged.{TruthOf, changed_of}
use Rattle.actions_meanings.specs.Forms.{Setting, Form, form, test, assign, choose, either, some, changing}
use Rattle.actions_meanings.specs.Holds.{Opened, all_of, one_of}
use Rattle.actions_meanings.specs.Filled.{at_next}
use Rattle.steps_found_states.specs.Grounds.{OpensFrom}
use Rattle.steps_found_states.specs.Parts.{Parts}
use Rattle.steps_why_branches.specs.PassedOver.{called}
use Rattle.steps_why_branches.specs.Traces.{End, SparedPart, Stood, Trace, added, after_spared, chosen, ended, fails, faulted, here, passed, stops}
use Rattle.steps_why_branches.specs.declared.sparing.Sparing.{Sparing}
use Rattle.steps_why_branches.specs.declared.why.WhyKind.TheVariants as why

-- of an action in its context, from these places
abbrev pub Branching : Type 1
Branching = Context → Term → Places → Trace → Type 0

-- the same behind parts that were passed over
abbrev pub Turning : Type 1
Turning = List SparedPart → Branching

abbrev pub stood : ℕ → Context × Term → Stood
stood d e = record { depth = d; at = e.0; term = e.1 }

-- Behind a branch of the parts before: where that has ended, no more; else a branch of this part.
abbrev pub Goes : Turning → ℕ → Context × Term → Trace → End → Trace → Type 0
Goes part d e y (passed q) x = (z : Trace) × part y.spared e.0 e.1 q z × (x ≡ added (stood d e) y z)
Goes part d e y (ended q n w) x = x ≡ y

-- parts that must all hold, behind a branch of those before them
abbrev pub Onward : Turning → ℕ → Parts → Trace → Trace → Type 0
Onward part d [] y x = x ≡ y
Onward part d (e ∷ es) y x = (z : Trace) × Goes part d e y y.end z × Onward part d es z x

-- a choice of one of several things, by its number
abbrev pub ByNumber : {A : Type 0} → (A → Trace → Type 0) → List A → Trace → Type 0
ByNumber {A} R cs x = (i : ℕ) × ((c : A) × (slice_get cs i ≡ Some c) × ((y : Trace) × R c y × (x ≡ chosen i y)))

-- where there is nothing to choose from it ends
abbrev pub Chooses : {A : Type 0} → (A → Trace → Type 0) → Places → Stood → List A → Trace → Type 0
Chooses R p s [] x = x ≡ stops p s (place_of s.term) why.NoMember
Chooses R p s (c ∷ cs) x = ByNumber R (c ∷ cs) x

-- an arm of a `\/`, and members of the sets of `\E`, are chosen; IF, CASE, calls and the like choose nothing
abbrev pub is_choice : Form → Bool
is_choice (either es) = true
is_choice (some bs e) = true
is_choice f = false

abbrev pub OneBranches : Branching → Bool → Parts → Places → Stood → Trace → Type 0
OneBranches part true es p s x = Chooses (λ e y. part e.0 e.1 p y) p s es x
OneBranches part false es p s x = Any (λ e. part e.0 e.1 p x) es

-- what a form opens to
abbrev pub OpenedBranches : Turning → ℕ → Bool → Places → Stood → Result Opened Fault → Trace → Type 0
OpenedBranches part d b p s (Ok (all_of es)) x = Onward part d es (here p) x
OpenedBranches part d b p s (Ok (one_of es)) x = OneBranches (part []) b es p s x
OpenedBranches part d b p s (Err f) x = x ≡ faulted p s f

-- a test, by its truth value
abbrev pub Tested : Sparing → Places → Stood → Result Bool Fault → Trace → Type 0
Tested sp p s (Ok true) x = x ≡ here p
Tested sp p s (Ok false) x = x ≡ fails sp p s why.TestFalse None
Tested sp p s (Err f) x = x ≡ faulted p s f

-- that v changes, of `<<A>>_v`
abbrev pub Altered : Places → Stood → Result Bool Fault → Trace → Type 0
Altered p s (Ok true) x = x ≡ here p
Altered p s (Ok false) x = x ≡ stops p s (place_of s.term) why.NoMember
Altered p s (Err f) x = x ≡ faulted p s f

-- the variable n has the value, by what its place holds
abbrev pub Equated : Sparing → Places → Stood → ℕ → Val → Option (Option Val) → Trace → Type 0
Equated sp p s n v (Some (Some w)) x = ((w ≡ v) × (x ≡ here p)) ⊎ ((w ≡ v → ⊥) × (x ≡ fails sp p s (why.Differs (record { 0 = n })) (Some v)))
Equated sp p s n v (Some None) x = x ≡ here (slice_set p n (Some v))
Equated sp p s n v None x = ⊥

abbrev pub Assigned : Sparing → Places → Stood → ℕ → Result Val Fault → Trace → Type 0
Assigned sp p s n (Ok v) x = Equated sp p s n v (slice_get p n) x
Assigned sp p s n (Err f) x = x ≡ faulted p s f

-- the variable n has a member of a listed set
abbrev pub Members : Places → Stood → ℕ → Result Val Fault → Trace → Type 0
Members p s n (Ok u) x = Chooses (λ v y. y ≡ here (slice_set p n (Some v))) p s (items_of u) x
Members p s n (Err f) x = x ≡ faulted p s f

-- the variable n has a member of the set, by what its place holds
abbrev pub Chosen : Sparing → Places → Stood → ℕ → Place → Result Described Fault → Option (Option Val) → Trace → Type 0
Chosen sp p s n at (Err f) o x = x ≡ faulted p s f
Chosen sp p s n at (Ok S) (Some (Some w)) x = (Belongs S w × (x ≡ here p)) ⊎ ((Belongs S w → ⊥) × (x ≡ fails sp p s (why.NotIn (record { 0 = n })) None))
Chosen sp p s n at (Ok S) (Some None) x = (r : Result Val Fault) × list_at at S r × Members p s n r x
Chosen sp p s n at (Ok S) None x = ⊥

-- the test that v changes, with d evaluations
abbrev pub Alters : Setting → ℕ → Branching
Alters g d c e q x = (r : Result Bool Fault) × TruthOf (Evaluates g.table d) (at_next g.which c q) e r × Altered q (stood d (c, e)) r x

abbrev pub Tests : Setting → ℕ → Turning
Tests g d ws = Alters g d

abbrev pub FormBranches : Setting → Sparing → ℕ → (Sparing → Branching) → Context → Term → Form → Places → Trace → Type 0
FormBranches g sp d part c a test p x = (r : Result Bool Fault) × TruthOf (Evaluates g.table (suc d)) (at_next g.which c p) a r × Tested sp p (stood (suc d) (c, a)) r x
FormBranches g sp d part c a (assign n e) p x = (r : Result Val Fault) × Evaluates g.table d (at_next g.which c p) e r × Assigned sp p (stood (suc d) (c, a)) n r x
FormBranches g sp d part c a (choose n e) p x = (r : Result Described Fault) × MeansSet (Describes g.table d) (at_next g.which c p) e r × Chosen sp p (stood (suc d) (c, a)) n (place_of e) r (slice_get p n) x
FormBranches g sp d part c a (changing e v) p x = (y : Trace) × Goes (λ ws. part (after_spared ws sp)) d (c, e) (here p) (passed p) y × Goes (Tests g d) d (c, changed_of (place_of a) v) y y.end x
FormBranches g sp d part c a f p x = (r : Result Opened Fault) × OpensFrom g d c p (place_of a) f r × OpenedBranches (λ ws. part (after_spared ws (called f sp))) d (is_choice f) p (stood (suc d) (c, a)) r x

-- A branch of the action from these places.
abbrev pub Branches : Setting → Sparing → ℕ → Branching
Branches g sp zero c a p x = x ≡ faulted p (stood zero (c, a)) (fault Nested (place_of a))
Branches g sp (suc d) c a p x = FormBranches g sp d (λ inner. Branches g inner d) c a (form g (length c.slots) a) p x

-- The same of a part that stands behind others.
abbrev pub Turns : Setting → Sparing → ℕ → Turning
Turns g sp d ws = Branches g (after_spared ws sp) d
