-- Which branches are listed: the first ones, in their order.
use Rattle.std.specs.Prelude.{◌⊎◌, ◌≤◌, ℕ, List, [], ◌∷◌, length, Contains}
use Rattle.steps_why_branches.specs.Branches.{Goes, Turning}
use Rattle.states_core.specs.States.{Values}
use Rattle.names_terms.specs.Terms.{Term}
use Rattle.eval_meanings.specs.Contexts.{Context, Places}
use Rattle.actions_meanings.specs.Filled.{Completes}
use Rattle.steps_why_branches.specs.Traces.{Earlier, End, Trace, passed, ended}
use Rattle.steps_why_branches.specs.declared.why.WhyKind.{WhyKind}
use Rattle.steps_why_branches.specs.declared.why.WhyKind.TheVariants as why

-- each is earlier than all behind it
abbrev pub Ascends : List Trace → Type 0
Ascends [] = Unit {0}
Ascends (x ∷ xs) = ((y : Trace) → Contains xs y → Earlier x y) × Ascends xs

-- The first k of them, in their order, or all where there are no more.
pub record Firsts (k : ℕ) (P : Trace → Type 0) (xs : List Trace) : Type 0 where
  pub ordered : Ascends xs
  pub few : length xs ≤ k
  pub are : (x : Trace) → Contains xs x → P x
  pub rest : (x : Trace) → P x → Contains xs x ⊎ ((k ≤ length xs) × ((y : Trace) → Contains xs y → Earlier y x))

abbrev pub IsFault : WhyKind → Type 0
IsFault (why.Fault k) = Unit {0}
IsFault k = ⊥

-- the state extends what is filled where the branch was gone through, or ends with a fault
abbrev pub Covers : End → Values → Type 0
Covers (passed q) t = Completes q t
Covers (ended q s w) t = IsFault w.reason × Completes q t

abbrev pub CoveredBy : List Trace → Values → Type 0
CoveredBy xs t = (x : Trace) × Contains xs x × Covers x.end t

-- Unless the list is full, each state that completes the places and of which the fact holds is covered by one of the branches.
abbrev pub Covering : ℕ → Places → (Values → Type 0) → List Trace → Type 0
Covering k p H xs = (t : Values) → Completes p t → H t → CoveredBy xs t ⊎ (k ≤ length xs)

-- at least so many, or as many as there may be
abbrev pub HasSoMany : ℕ → ℕ → List Trace → Type 0
HasSoMany m k xs = (m ≤ length xs) ⊎ (k ≤ length xs)

-- what comes of each of several branches with one part more
abbrev pub Reaches : Turning → ℕ → Context × Term → List Trace → Trace → Type 0
Reaches part d e ps x = (y : Trace) × Contains ps y × Goes part d e y y.end x

-- the first of these, and at least one for each, unless the list is full
pub record Each (k : ℕ) (part : Turning) (d : ℕ) (e : Context × Term) (ps ys : List Trace) : Type 0 where
  pub firsts : Firsts k (Reaches part d e ps) ys
  pub grows : HasSoMany (length ps) k ys

abbrev pub CoverOn : ℕ → (Values → Type 0) → List Trace → List Trace → Type 0
CoverOn k H ps ys = (x : Trace) (t : Values) → Contains ps x → Covers x.end t → H t → CoveredBy ys t ⊎ (k ≤ length ys)
