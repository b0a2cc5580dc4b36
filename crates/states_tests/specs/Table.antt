-- A table of edges, whose system the tests search.
use Rattle.std.specs.Prelude.{◌≡◌, ◌⊎◌, ℕ, Bool, true, false, ◌&&◌, nat_eq, IsTrue, List, [], Contains, get_or, Option, Some, None, Result, Ok, Err, refl}
use Rattle.base_core.specs.declared.place.LineAt.{LineAt}
use Rattle.base_core.specs.declared.place.Place.{Place}
use Rattle.states_core.specs.States.{Values}
use Rattle.std.proofs.Common.{arith, sym, true≢false}
use Rattle.states_core.specs.StateOrder.{state_eq, state_decides}
use Rattle.states_core.specs.Sets.{IsList}
use Rattle.states_core.specs.System.{System}
use Rattle.states_core.specs.declared.fault.Fault.{Fault}
use Rattle.states_core.specs.declared.state.Mark.{Mark}
use Rattle.states_core.specs.declared.state.Mark.TheVariants.{Init, Silent, Line}
use Rattle.states_layers.specs.Found.{Found, AddsNew, members_of}
use Rattle.states_layers.specs.declared.steps.StepFault.{StepFault}
use Rattle.states_layers.specs.declared.steps.StepFault.TheVariants.{Eval, TooMany, NoMemory}
use Rattle.std.specs.Coded.{Coded, code_by, coded×, coded_ℕ, coded_bool}
use Rattle.states_core.specs.Codes.{mark_code}
use Rattle.states_core.specs.StateCodes.{values_code}

-- What is searched: a number with a state.
abbrev pub Spot : Type 0
Spot = ℕ × Values

abbrev pub spot_code : Coded Spot
spot_code = coded× coded_ℕ values_code

-- A step of this kind leads to a second, or faults there. A first one is reached from the empty one.
pub record Edge : Type 0 where
  pub mark : Mark
  pub from : Spot
  pub to : Spot
  pub faults : Bool

-- how edges are told apart by a proof
abbrev pub edge_code : Coded Edge
edge_code =
    code_by ((Mark × Spot) × (Spot × Bool)) (coded× (coded× mark_code spot_code) (coded× spot_code coded_bool))
    (λ e. ((e.mark, e.from), (e.to, e.faults))) (λ p. record { mark = p.0.0; from = p.0.1; to = p.1.0; faults = p.1.1 }) (λ _. refl)

-- The edge is of this kind, from s.
abbrev pub IsEdge : Edge → Mark → Spot → Type 0
IsEdge e mark s = (e.mark ≡ mark) × (e.from ≡ s)

-- The end of an edge of this kind from s, which does not fault, is added; another edge adds nothing.
abbrev pub Takes : Edge → Mark → Spot → List (Found Spot) → List (Found Spot) → Type 0
Takes e mark s old now = (IsEdge e mark s × (e.faults ≡ false) × AddsNew old e.to 0 now) ⊎ ((IsEdge e mark s → ⊥) × (now ≡ old))

-- The edge is of this kind, from s, and faults; or memory is wanting.
abbrev pub IsRefused : Edge → Mark → Spot → StepFault → Type 0
IsRefused e mark s (Eval f) = IsEdge e mark s × (e.faults ≡ true)
IsRefused e mark s TooMany = ⊥
IsRefused e mark s NoMemory = Unit {0}

-- An edge of this kind leads from s to t, and faults or does not.
pub record Leads (edges : List Edge) (mark : Mark) (s : Spot) (faults : Bool) (t : Spot) : Type 0 where
  pub edge : Edge
  pub there : Contains edges edge
  pub is : IsEdge edge mark s
  pub to : edge.to ≡ t
  pub fault : edge.faults ≡ faults

-- These are the ends of the edges of this kind from s, each once, and none of those edges faults.
pub record Listed (edges : List Edge) (mark : Mark) (s : Spot) (found : List (Found Spot)) : Type 0 where
  pub list : IsList (Leads edges mark s false) (members_of found)
  pub clear : (t : Spot) → Leads edges mark s true t → ⊥

-- What first ones are reached from.
abbrev pub none : Spot
none = (0, [])

-- The n-th line as edges name it.
abbrev pub line : ℕ → LineAt
line n = record { file = 1; line = n }

-- What is told of the k-th assumption: its place where it is FALSE, or its fault; past the end of the list it is TRUE.
abbrev pub told : List (Result (Option Place) Fault) → ℕ → Result (Option Place) Fault
told xs k = get_or xs k (Ok None)

-- The edges as relations, with counts and limits. What a line shows rules nothing out.
abbrev pub system_of : List Edge → List (Result (Option Place) Fault) → ℕ → ℕ → ℕ → ℕ → ℕ → System Spot
system_of edges assumptions assumes count within limit total = record {
  Init = λ s. Leads edges Init none false s;
  InitSeen = λ s. Unit {0};
  Step = λ n s t. Leads edges (Line (line n)) s false t;
  Seen = λ n s t. Unit {0};
  Silent = λ s t. Leads edges Silent s false t;
  FaultInit = λ t f. Leads edges Init none true t;
  FaultStep = λ n s t f. Leads edges (Line (line n)) s true t;
  FaultSilent = λ s t f. Leads edges Silent s true t;
  at = λ n s t. record { file = t.0; line = n };
  Expected = λ n s at. at ≡ record { file = s.0; line = n };
  state_of = λ s. s.1;
  count = count;
  within = within;
  limit = limit;
  total = total;
  assumes = assumes;
  IsAssumed = λ k. told assumptions k ≡ Ok None;
  FaultAssume = λ k f. told assumptions k ≡ Err f;
  IsFalse = λ k p. told assumptions k ≡ Ok (Some p);
}

nat_same : (m n : ℕ) → nat_eq m n ≡ true → m ≡ n
nat_same m n h = grind arith

-- Spots that are compared equal are one.
pub placed_same : (one other : Spot) → IsTrue (nat_eq one.0 other.0 && state_eq one.1 other.1) → one ≡ other
placed_same one other e = by (nat_eq one.0 other.0) (state_eq one.1 other.1) refl refl e
  where
    by : (b c : Bool) → nat_eq one.0 other.0 ≡ b → state_eq one.1 other.1 ≡ c → (b && c) ≡ true → one ≡ other
    by true true p q h = λ i. (nat_same one.0 other.0 p i, (state_decides one.1 other.1).0 q i)
    by true false p q h = absurd (true≢false (sym h))
    by false c p q h = absurd (true≢false (sym h))
