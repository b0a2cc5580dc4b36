-- What a verdict says of a list of marked states: all are clean and a behaviour of all lines, or the first that is not clean, and why.
use Rattle.std.specs.Prelude.{◌≢◌, ◌⊎◌, ℕ, suc, ◌<◌, ◌≤◌, List, length, slice_get, Option, None, Some}
use Rattle.base_core.specs.declared.place.LineAt.{LineAt}
use Rattle.states_core.specs.States.{Values}
use Rattle.states_core.specs.Runs.{IsBehaviour}
use Rattle.states_core.specs.declared.fault.Fault.{Fault}
use Rattle.states_core.specs.declared.state.Mark.{Mark}
use Rattle.states_core.specs.declared.state.Mark.TheVariants.{Init, Silent, Line}
use Rattle.states_core.specs.declared.state.Shown.{Shown}
use Rattle.states_verdicts.specs.Asks.{PairAsks, IsRest}
use Rattle.states_verdicts.specs.Cleans.{Reached, Faults, IsQuiet, AreClean, reached_at}
use Rattle.states_verdicts.specs.declared.verdict.Reason.{Reason}
use Rattle.states_verdicts.specs.declared.verdict.Reason.TheVariants.{NoState, WrongMark, NotInit, TooManySilent, WrongLine, NotSilent, NotStep, NotSeen, LinesLeft}
use Rattle.states_verdicts.specs.declared.verdict.Verdict.{Verdict}
use Rattle.states_verdicts.specs.declared.verdict.Verdict.TheVariants.{Valid, Invalid, Fault as Faulted}

-- The reason is true of the first state.
abbrev pub IsWrongFirst : PairAsks → Mark → Values → Reason → Type 0
IsWrongFirst a m t WrongMark = m ≢ Init
IsWrongFirst a m t NotInit = a.system.Init t → ⊥
IsWrongFirst a m t NotSeen = a.system.InitSeen t → ⊥
IsWrongFirst a m t r = ⊥

-- The reason is true of a state behind s that is marked as a first one.
abbrev pub IsWrongAgain : Reason → Type 0
IsWrongAgain WrongMark = Unit {0}
IsWrongAgain r = ⊥

-- The reason is true of a silent state behind s, n lines and j silent states.
abbrev pub IsWrongSilent : PairAsks → Values → ℕ → ℕ → Values → Reason → Type 0
IsWrongSilent a s n j t WrongMark = a.system.count ≤ n
IsWrongSilent a s n j t TooManySilent = a.system.within ≤ suc j
IsWrongSilent a s n j t NotSilent = a.system.Silent s t → ⊥
IsWrongSilent a s n j t r = ⊥

-- The reason is true of a state behind s and n lines that is marked with a line.
abbrev pub IsWrongLine : PairAsks → Values → ℕ → LineAt → Values → Reason → Type 0
IsWrongLine a s n at t WrongLine = (a.system.count ≤ n) ⊎ (at ≢ a.system.at n s t)
IsWrongLine a s n at t NotStep = (IsRest a n s t → ⊥) × ((a.Moves n s t → ⊥) ⊎ (a.Acts n s t → ⊥))
IsWrongLine a s n at t NotSeen = a.system.Seen n s t → ⊥
IsWrongLine a s n at t r = ⊥

abbrev pub IsWrongAt : PairAsks → Option Values → ℕ → ℕ → Mark → Values → Reason → Type 0
IsWrongAt a None n j m t r = IsWrongFirst a m t r
IsWrongAt a (Some s) n j Init t r = IsWrongAgain r
IsWrongAt a (Some s) n j Silent t r = IsWrongSilent a s n j t r
IsWrongAt a (Some s) n j (Line at) t r = IsWrongLine a s n at t r

-- The reason is true of the end of the list, behind n lines.
abbrev pub IsWrongEnd : PairAsks → Option Values → ℕ → Reason → Type 0
IsWrongEnd a None n NoState = Unit {0}
IsWrongEnd a None n r = ⊥
IsWrongEnd a (Some s) n LinesLeft = n < a.system.count
IsWrongEnd a (Some s) n r = ⊥

-- The reason is true of what comes behind p: a marked state or, as None, the end.
abbrev pub IsWrong : PairAsks → Reached → Option Shown → Reason → Type 0
IsWrong a p None r = IsWrongEnd a p.last p.line r
IsWrong a p (Some x) r = IsWrongAt a p.last p.line p.silents x.mark x.state r

-- The order in which the reasons are tested.
abbrev pub rank : Reason → ℕ
rank NoState = 0
rank WrongMark = 1
rank NotInit = 2
rank TooManySilent = 3
rank WrongLine = 4
rank NotSilent = 5
rank NotStep = 6
rank NotSeen = 7
rank LinesLeft = 8

-- A fault goes before the reason: it is only known by evaluation, or comes behind one. (Of a step whose updates lead elsewhere nothing is evaluated.)
abbrev pub IsEvaluated : Reason → Type 0
IsEvaluated NotInit = Unit {0}
IsEvaluated NotSilent = Unit {0}
IsEvaluated NotStep = Unit {0}
IsEvaluated NotSeen = Unit {0}
IsEvaluated r = ⊥

-- The first reason that is true of what comes behind p, where no fault goes before it.
pub record IsReason (a : PairAsks) (p : Reached) (x : Option Shown) (r : Reason) : Type 0 where
  pub holds : IsWrong a p x r
  pub first : (q : Reason) → rank q < rank r → IsWrong a p x q → ⊥
  pub quiet : IsEvaluated r → IsQuiet (Faults a p x)

-- A fault of what comes behind p, where no reason goes before it.
pub record IsFault (a : PairAsks) (p : Reached) (x : Option Shown) (f : Fault) : Type 0 where
  pub faults : Faults a p x f
  pub first : (r : Reason) → IsWrong a p x r → IsEvaluated r

-- The index of a reason is that of the first state that is not clean, or the number of states. Of several faults of one state any may be named.
abbrev pub IsVerdict : PairAsks → List Shown → Verdict → Type 0
IsVerdict a w Valid = IsBehaviour a.system a.system.count w × AreClean a w (length w)
IsVerdict a w (Invalid i r) = AreClean a w i × IsReason a (reached_at w i) (slice_get w i) r
IsVerdict a w (Faulted i kind at) = AreClean a w i × IsFault a (reached_at w i) (slice_get w i) (record { kind = kind; at = at })
