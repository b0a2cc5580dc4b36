-- What is listed of the branches of an action, and of its parts.
use Rattle.std.specs.Prelude.{◌≡◌, ◌⊎◌, ◌≤◌, ℕ, List, map, length, Any, Contains, Some, slice_get, slice_set}
use Rattle.std.specs.List.{AllByRecursion}
use Rattle.values_core.specs.Data.{Val}
use Rattle.states_core.specs.States.{Values}
use Rattle.names_terms.specs.Terms.{Term}
use Rattle.eval_meanings.specs.Contexts.{Context, Places}
use Rattle.actions_meanings.specs.Forms.{Setting}
use Rattle.actions_meanings.specs.Filled.{Completes}
use Rattle.steps_found_states.specs.Parts.{Parts}
use Rattle.steps_found_states.specs.Walks.{HoldsOf}
use Rattle.steps_why_branches.specs.Traces.{Trace, here}
use Rattle.steps_why_branches.specs.Branches.{Branches, ByNumber, Goes, Onward, Tests, Turns}
use Rattle.steps_why_branches.specs.declared.sparing.Sparing.{Sparing}
use Rattle.steps_why_branches.specs.Firsts.{CoverOn, CoveredBy, Covering, Covers, Each, Firsts}

-- from the places p: the first k branches, in their order, at least one, and they cover what holds
pub record Found (k : ℕ) (p : Places) (P : Trace → Type 0) (H : Values → Type 0) (xs : List Trace) : Type 0 where
  pub firsts : Firsts k P xs
  pub some : 1 ≤ length xs
  pub covers : Covering k p H xs

abbrev pub FoundOf : Setting → Sparing → ℕ → ℕ → Context → Term → Places → List Trace → Type 0
FoundOf g sp k d c a p xs = Found k p (Branches g sp d c a p) (HoldsOf g d c a) xs

abbrev pub Sets : Places → ℕ → Val → Trace → Type 0
Sets p n v y = y ≡ here (slice_set p n (Some v))

pub record MembersFound (k : ℕ) (p : Places) (n : ℕ) (vs : List Val) (xs : List Trace) : Type 0 where
  pub firsts : Firsts k (ByNumber (Sets p n) vs) xs
  pub covers : (t : Values) → Completes p t → (v : Val) → Contains vs v → slice_get (map Some t) n ≡ Some (Some v) → CoveredBy xs t ⊎ (k ≤ length xs)
  pub some : 1 ≤ length vs → 1 ≤ length xs

abbrev pub AnyHolds : Setting → ℕ → Parts → Values → Type 0
AnyHolds g d es t = Any (λ e. HoldsOf g d e.0 e.1 t) es

abbrev pub AllHold : Setting → ℕ → Parts → Values → Type 0
AllHold g d es t = AllByRecursion (λ e. HoldsOf g d e.0 e.1 t) es

abbrev pub Of : Setting → Sparing → ℕ → Places → Context × Term → Trace → Type 0
Of g sp d p e y = Branches g sp d e.0 e.1 p y

pub record ArmsFound (g : Setting) (sp : Sparing) (d k : ℕ) (p : Places) (es : Parts) (xs : List Trace) : Type 0 where
  pub firsts : Firsts k (ByNumber (Of g sp d p) es) xs
  pub covers : Covering k p (AnyHolds g d es) xs
  pub some : 1 ≤ length es → 1 ≤ length xs

pub record EachFound (g : Setting) (sp : Sparing) (d k : ℕ) (e : Context × Term) (ps ys : List Trace) : Type 0 where
  pub each : Each k (Turns g sp d) d e ps ys
  pub covers : CoverOn k (HoldsOf g d e.0 e.1) ps ys

-- what comes of one branch with one part more
pub record After (g : Setting) (sp : Sparing) (d k : ℕ) (e : Context × Term) (y : Trace) (zs : List Trace) : Type 0 where
  pub firsts : Firsts k (Goes (Turns g sp d) d e y y.end) zs
  pub some : 1 ≤ length zs
  pub covers : (t : Values) → Covers y.end t → HoldsOf g d e.0 e.1 t → CoveredBy zs t ⊎ (k ≤ length zs)

pub record TurnsFound (g : Setting) (sp : Sparing) (d k : ℕ) (p : Places) (es : Parts) (xs : List Trace) : Type 0 where
  pub firsts : Firsts k (Onward (Turns g sp d) d es (here p)) xs
  pub some : 1 ≤ length xs
  pub covers : Covering k p (AllHold g d es) xs

-- what comes of one branch by a test, and of each of several
pub record AfterTest (g : Setting) (d k : ℕ) (e : Context × Term) (y : Trace) (zs : List Trace) : Type 0 where
  pub firsts : Firsts k (Goes (Tests g d) d e y y.end) zs
  pub some : 1 ≤ length zs
  pub covers : (t : Values) → Covers y.end t → HoldsOf g d e.0 e.1 t → CoveredBy zs t ⊎ (k ≤ length zs)

pub record TestsFound (g : Setting) (d k : ℕ) (e : Context × Term) (ps ys : List Trace) : Type 0 where
  pub each : Each k (Tests g d) d e ps ys
  pub covers : CoverOn k (HoldsOf g d e.0 e.1) ps ys
