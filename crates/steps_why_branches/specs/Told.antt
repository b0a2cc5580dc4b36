-- What is told of a branch: which parts hold, and which do not, at each state that extends what is filled where it ends.
use Rattle.std.specs.Prelude.{◌≡◌, ◌↔◌, ℕ, true, List, [], ◌∷◌, length, map, Contains, None, Some}
use Rattle.states_core.specs.States.{Values}
use Rattle.names_terms.specs.Terms.{Term, place_of}
use Rattle.eval_meanings.specs.Contexts.{Context, Places}
use Rattle.eval_meanings.specs.Laws.{IsWithin, ReadsValues}
use Rattle.actions_meanings.specs.Forms.{Setting}
use Rattle.actions_meanings.specs.Filled.{Completes, at_next}
use Rattle.steps_found_states.specs.Walks.{HoldsOf}
use Rattle.steps_why_branches.specs.declared.sparing.Passing.{Passing}
use Rattle.steps_why_branches.specs.declared.sparing.Passing.TheVariants as passing
use Rattle.steps_why_branches.specs.PassedOver.{behind_one, may_spare, nothing}
use Rattle.steps_why_branches.specs.Repaired.{HoldsButOf}
use Rattle.steps_why_branches.specs.Traces.{End, SparedPart, Stood, Trace, ended, passed, here}
use Rattle.steps_why_branches.specs.declared.sparing.Sparing.{Sparing}
use Rattle.steps_why_branches.specs.declared.why.WhyKind.{WhyKind}
use Rattle.steps_why_branches.specs.declared.why.WhyKind.TheVariants as why
use Rattle.steps_why_branches.specs.Firsts.{IsFault}
use Rattle.steps_why_branches.specs.Branches.{Branches, Onward, Turns}
use Rattle.std.specs.List.{AllByRecursion}
use Rattle.steps_found_states.specs.Parts.{Parts}

-- what is filled where it ends
abbrev pub filled_at : End → Places
filled_at (passed q) = q
filled_at (ended q s w) = q

-- Of a state that extends what is filled then: the action holds of it, where nothing was passed over; or the named part does not, unless it faults.
abbrev pub EndSays : Setting → Context → Term → ℕ → List SparedPart → End → Values → Type 0
EndSays g c a d ws (passed q) t = ws ≡ [] → Completes q t → HoldsOf g d c a t
EndSays g c a d ws (ended q s w) t = Completes q t → (IsFault w.reason → ⊥) → HoldsOf g s.depth s.at s.term t → ⊥

-- And where it was gone through: if what was passed over held, so would the action.
abbrev pub EndRepairs : Setting → Passing → Context → Term → ℕ → End → Values → Type 0
EndRepairs g at c a d (passed q) t = Completes q t → HoldsButOf g at d c a t
EndRepairs g at c a d (ended q s w) t = Unit {0}

-- a part that is passed over is a test that is false, or says of a variable that it has another value
abbrev pub IsPassable : WhyKind → Type 0
IsPassable why.TestFalse = Unit {0}
IsPassable (why.Differs x) = Unit {0}
IsPassable (why.NotIn x) = Unit {0}
IsPassable k = ⊥

-- It stands where parts may be passed over, and holds at no state that extends what is filled then.
pub record IsSpared (g : Setting) (at : Passing) (q : Places) (w : SparedPart) : Type 0 where
  pub may : may_spare at w.part.term ≡ true
  pub stands : w.told.why.at ≡ Some (place_of w.part.term)
  pub passable : IsPassable w.told.why.reason
  pub slots : w.told.slots ≡ w.part.at.slots
  pub lacks : (t : Values) → Completes q t → HoldsOf g w.part.depth w.part.at w.part.term t → ⊥

-- What a branch has filled extends the places, the parts before its end hold at each state that extends that, and those that were passed over at none;
-- if these held, and it was gone through, the action would hold.
pub record Says (g : Setting) (at : Passing) (c : Context) (a : Term) (d : ℕ) (p : Places) (x : Trace) : Type 0 where
  pub long : length (filled_at x.end) ≡ length p
  pub more : IsWithin p (filled_at x.end)
  pub before : (s : Stood) → Contains x.before s → (t : Values) → Completes (filled_at x.end) t → HoldsOf g s.depth s.at s.term t
  pub spared : (w : SparedPart) → Contains x.spared w → IsSpared g at (filled_at x.end) w
  pub ends : (t : Values) → EndSays g c a d x.spared x.end t
  pub repaired : (t : Values) → EndRepairs g at c a d x.end t

-- all that the action may read is a value
abbrev pub KnowsAll : Setting → Places → Context → Term → Type 0
KnowsAll g p c a = (t : Values) → Completes p t → ReadsValues g.table (at_next g.which c (map Some t)) a

-- so of each branch of each action, whatever may be passed over
abbrev pub BranchesSay : Type 0
BranchesSay = (g : Setting) (sp : Sparing) (d : ℕ) (c : Context) (a : Term) (p : Places) (x : Trace) → KnowsAll g p c a → Branches g sp d c a p x → Says g sp.at c a d p x

-- Of parts that must all hold: where all were gone through and nothing was passed over each of them holds, and else the named part does not, unless it
-- faults.
abbrev pub EndSaysAll : Setting → ℕ → Parts → List SparedPart → End → Values → Type 0
EndSaysAll g d es ws (passed q) t = ws ≡ [] → Completes q t → AllByRecursion (λ e. HoldsOf g d e.0 e.1 t) es
EndSaysAll g d es ws (ended q s w) t = Completes q t → (IsFault w.reason → ⊥) → HoldsOf g s.depth s.at s.term t → ⊥

abbrev pub EndRepairsAll : Setting → Passing → ℕ → Parts → End → Values → Type 0
EndRepairsAll g at d es (passed q) t = Completes q t → AllByRecursion (λ e. HoldsButOf g at d e.0 e.1 t) es
EndRepairsAll g at d es (ended q s w) t = Unit {0}

pub record SaysAll (g : Setting) (at : Passing) (d : ℕ) (es : Parts) (p : Places) (x : Trace) : Type 0 where
  pub long : length (filled_at x.end) ≡ length p
  pub more : IsWithin p (filled_at x.end)
  pub before : (s : Stood) → Contains x.before s → (t : Values) → Completes (filled_at x.end) t → HoldsOf g s.depth s.at s.term t
  pub spared : (w : SparedPart) → Contains x.spared w → IsSpared g at (filled_at x.end) w
  pub ends : (t : Values) → EndSaysAll g d es x.spared x.end t
  pub repaired : (t : Values) → EndRepairsAll g at d es x.end t

abbrev pub PartsSay : Type 0
PartsSay = (g : Setting) (sp : Sparing) (d : ℕ) (es : Parts) (p : Places) (x : Trace) → AllByRecursion (λ e. KnowsAll g p e.0 e.1) es → Onward (Turns g sp d) d es (here p) x → SaysAll g sp.at d es p x

-- Where nothing may be passed over, nothing is.
abbrev pub NothingIsSpared : Type 0
NothingIsSpared = (g : Setting) (d : ℕ) (es : Parts) (p : Places) (x : Trace) → AllByRecursion (λ e. KnowsAll g p e.0 e.1) es → Onward (Turns g nothing d) d es (here p) x → x.spared ≡ []

abbrev pub IsPassed : End → Type 0
IsPassed (passed q) = Unit {0}
IsPassed (ended q s w) = ⊥

-- it is told at which place parts may be passed over, or that none may be
abbrev pub IsNamed : Passing → Type 0
IsNamed passing.Nothing = Unit {0}
IsNamed (passing.At at) = Unit {0}
IsNamed passing.OnePlace = ⊥

-- what may be passed over where these parts were: anything where there are none, and else the parts at the place of the first
abbrev pub Fits : List SparedPart → Passing → Type 0
Fits [] at = Unit {0}
Fits (w ∷ ws) at = at ≡ behind_one w.told.why.at passing.OnePlace

abbrev pub sparing_of : Passing → Sparing
sparing_of at = record { at = at; call = None }

-- The branches that go through all parts where those at one place may be passed over, whichever that is, are those that do where none may be, and for each
-- place those that do where the parts there may be: so all of them are found at once.
abbrev pub OnePlaceIsEach : Type 0
OnePlaceIsEach = (g : Setting) (at : Passing) → IsNamed at → (d : ℕ) (es : Parts) (p : Places) (x : Trace) → IsPassed x.end
    → Onward (Turns g (sparing_of at) d) d es (here p) x ↔ (Onward (Turns g (sparing_of passing.OnePlace) d) d es (here p) x × Fits x.spared at)
