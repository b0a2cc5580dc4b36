-- States in a list, one after the other: which of them are clean.
use Rattle.std.specs.Prelude.{◌≡◌, ℕ, suc, ◌<◌, List, [], ◌∷◌, take, slice_get, Option, None, Some}
use Rattle.states_core.specs.States.{Values}
use Rattle.states_core.specs.declared.fault.Fault.{Fault}
use Rattle.states_core.specs.declared.state.Mark.{Mark}
use Rattle.states_core.specs.declared.state.Mark.TheVariants.{Init, Silent, Line}
use Rattle.states_core.specs.declared.state.Shown.{Shown}
use Rattle.states_verdicts.specs.Asks.{PairAsks, IsRest, FaultStep}

-- How far marked states have come: over how many lines, how many silent states stand behind the last of these, and the last state.
pub record Reached : Type 0 where
  pub line : ℕ
  pub silents : ℕ
  pub last : Option Values

abbrev pub nowhere : Reached
nowhere = record { line = 0; silents = 0; last = None }

abbrev pub line_after : Mark → ℕ → ℕ
line_after Init n = n
line_after Silent n = n
line_after (Line at) n = suc n

abbrev pub silents_after : Mark → ℕ → ℕ
silents_after Init j = 0
silents_after Silent j = suc j
silents_after (Line at) j = 0

abbrev pub reach : Reached → Shown → Reached
reach p x = record { line = line_after x.mark p.line; silents = silents_after x.mark p.silents; last = Some x.state }

abbrev pub reached : Reached → List Shown → Reached
reached p [] = p
reached p (x ∷ w) = reached (reach p x) w

-- Nothing is a fault of this kind.
abbrev pub IsQuiet : (Fault → Type 0) → Type 0
IsQuiet P = (f : Fault) → P f → ⊥

-- The mark is right there, the state is related by it to the one before, and it agrees with what the log shows. `last`, n and j are what is reached.
abbrev pub FitsAt : PairAsks → Option Values → ℕ → ℕ → Mark → Values → Type 0
FitsAt a None n j Init t = a.system.Init t × a.system.InitSeen t
FitsAt a None n j Silent t = ⊥
FitsAt a None n j (Line at) t = ⊥
FitsAt a (Some s) n j Init t = ⊥
FitsAt a (Some s) n j Silent t = (n < a.system.count) × (suc j < a.system.within) × a.system.Silent s t
FitsAt a (Some s) n j (Line at) t = (n < a.system.count) × (at ≡ a.system.at n s t) × a.system.Step n s t

-- What the mark asks to be evaluated faults so. A step that leaves the state as it is asks for nothing.
abbrev pub FaultsAt : PairAsks → Option Values → ℕ → Mark → Values → Fault → Type 0
FaultsAt a None n Init t f = a.FaultInit t f
FaultsAt a None n Silent t f = ⊥
FaultsAt a None n (Line at) t f = ⊥
FaultsAt a (Some s) n Init t f = ⊥
FaultsAt a (Some s) n Silent t f = a.FaultSilent s t f
FaultsAt a (Some s) n (Line at) t f = (IsRest a n s t → ⊥) × FaultStep a n s t f

-- What comes behind p, a marked state or, as None, the end, faults so.
abbrev pub Faults : PairAsks → Reached → Option Shown → Fault → Type 0
Faults a p None f = ⊥
Faults a p (Some x) f = FaultsAt a p.last p.line x.mark x.state f

-- What comes behind p is a state that fits, and no evaluation of it faults.
abbrev pub IsClean : PairAsks → Reached → Option Shown → Type 0
IsClean a p None = ⊥
IsClean a p (Some x) = FitsAt a p.last p.line p.silents x.mark x.state × IsQuiet (Faults a p (Some x))

-- What the first i states reach.
abbrev pub reached_at : List Shown → ℕ → Reached
reached_at w i = reached nowhere (take i w)

-- The state of that number is clean.
abbrev pub IsCleanAt : PairAsks → List Shown → ℕ → Type 0
IsCleanAt a w i = IsClean a (reached_at w i) (slice_get w i)

-- All states before that number are clean.
abbrev pub AreClean : PairAsks → List Shown → ℕ → Type 0
AreClean a w i = (k : ℕ) → k < i → IsCleanAt a w k
