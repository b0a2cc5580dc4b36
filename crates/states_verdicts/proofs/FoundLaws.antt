-- What is found of one state, by its mark.
use Rattle.std.proofs.Common.{◌≡◌, ◌≢◌, ◌≤◌, ◌<◌, ◌+◌, ℕ, arith, refl, ◌⊎◌, inl, inr, Some, Bool, true, false, ◌↔◌}
use Rattle.std.specs.Bool.{IsTrue}
use Rattle.base_core.specs.declared.place.LineAt.{LineAt}
use Rattle.states_core.specs.States.{Values, shown}
use Rattle.states_core.specs.declared.state.Mark.{Mark}
use Rattle.states_core.specs.declared.state.Mark.TheVariants.{Init, Silent, Line}
use Rattle.states_verdicts.specs.Asks.{PairAsks, IsComposed, IsRest}
use Rattle.states_verdicts.specs.Cleans.{nowhere}
use Rattle.states_verdicts.specs.Verdicts.{IsWrongFirst, IsWrongAgain, IsWrongSilent, IsWrongLine, IsEvaluated, rank}
use Rattle.states_verdicts.specs.Tellings.{Tells}
use Rattle.states_verdicts.specs.Founds.{IsFound, found_of, behind}
use Rattle.states_verdicts.specs.declared.verdict.Reason.{Reason}
use Rattle.states_verdicts.specs.declared.verdict.Reason.TheVariants.{NoState, WrongMark, NotInit, TooManySilent, WrongLine, NotSilent, NotStep, NotSeen}
use Rattle.states_verdicts.specs.declared.pairs.Told.{Told}
use Rattle.states_verdicts.specs.declared.pairs.Told.TheVariants.{Holds, Fails, Faults as ToldFault}
use Rattle.states_verdicts.specs.declared.judging.Found.TheVariants.{Clean, Wrong}

pub not_false : IsTrue false → ⊥
not_false h = grind arith

-- the first state
mark_before : (a : PairAsks) (m : Mark) (t : Values) (q : Reason) → rank q < 1 → IsWrongFirst a m t q → ⊥
mark_before a m t NoState lt h = h
mark_before a m t q lt h = absurd (omega arith)

pub first_mark : (a : PairAsks) (m : Mark) (t : Values) → m ≢ Init → IsFound a nowhere (Some (shown m t)) (Wrong WrongMark)
first_mark a m t h = record { holds = h; first = mark_before a m t; quiet = λ e f b. e }

init_before : (a : PairAsks) (t : Values) (q : Reason) → rank q < 2 → IsWrongFirst a Init t q → ⊥
init_before a t NoState lt h = h
init_before a t WrongMark lt h = h refl
init_before a t q lt h = absurd (omega arith)

shown_before : (a : PairAsks) (t : Values) → a.system.Init t → (q : Reason) → rank q < 7 → IsWrongFirst a Init t q → ⊥
shown_before a t i WrongMark lt h = h refl
shown_before a t i NotInit lt h = h i
shown_before a t i NotSeen lt h = absurd (omega arith)
shown_before a t i q lt h = h

first_late : (a : PairAsks) (t : Values) (q : Reason) → IsWrongFirst a Init t q → IsEvaluated q
first_late a t WrongMark h = h refl
first_late a t NotInit h = tt
first_late a t NotSeen h = tt
first_late a t q h = absurd h

pub first_told : (a : PairAsks) (t : Values) (told : Told) (seen : Bool) → Tells (a.system.Init t) (a.FaultInit t) told → (IsTrue seen ↔ a.system.InitSeen t)
    → IsFound a nowhere (Some (shown Init t)) (found_of told NotInit seen)
first_told a t Holds true h e = ((h.0, e.0 refl), h.1)
first_told a t Holds false h e = record { holds = λ i. not_false (e.1 i); first = shown_before a t h.0; quiet = λ l. h.1 }
first_told a t Fails seen h e = record { holds = h.0; first = init_before a t; quiet = λ l. h.1 }
first_told a t (ToldFault f) seen h e = record { faults = h; first = first_late a t }

-- a state behind another that is marked as a first one
again_before : (q : Reason) → rank q < 1 → IsWrongAgain q → ⊥
again_before WrongMark lt h = absurd (omega arith)
again_before q lt h = h

pub again_told : (a : PairAsks) (s : Values) (n j : ℕ) (t : Values) → IsFound a (behind n j s) (Some (shown Init t)) (Wrong WrongMark)
again_told a s n j t = record { holds = tt; first = again_before; quiet = λ e f b. e }

-- a silent step
silent_before : (a : PairAsks) (s : Values) (n j : ℕ) (t : Values) (q : Reason) → rank q < 1 → IsWrongSilent a s n j t q → ⊥
silent_before a s n j t NoState lt h = h
silent_before a s n j t q lt h = absurd (omega arith)

pub silent_mark : (a : PairAsks) (s : Values) (n j : ℕ) (t : Values) → a.system.count ≤ n → IsFound a (behind n j s) (Some (shown Silent t)) (Wrong WrongMark)
silent_mark a s n j t h = record { holds = h; first = silent_before a s n j t; quiet = λ e f b. e }

many_before : (a : PairAsks) (s : Values) (n j : ℕ) (t : Values) → n < a.system.count → (q : Reason) → rank q < 3 → IsWrongSilent a s n j t q → ⊥
many_before a s n j t le WrongMark lt h = absurd (omega arith)
many_before a s n j t le TooManySilent lt h = absurd (omega arith)
many_before a s n j t le NotSilent lt h = absurd (omega arith)
many_before a s n j t le q lt h = h

pub silent_many : (a : PairAsks) (s : Values) (n j : ℕ) (t : Values) → n < a.system.count → a.system.within ≤ j + 1 → IsFound a (behind n j s) (Some (shown Silent t)) (Wrong TooManySilent)
silent_many a s n j t le h = record { holds = omega arith; first = many_before a s n j t le; quiet = λ e f b. e }

still_before : (a : PairAsks) (s : Values) (n j : ℕ) (t : Values) → n < a.system.count → j + 1 < a.system.within → (q : Reason) → rank q < 5 → IsWrongSilent a s n j t q → ⊥
still_before a s n j t le w WrongMark lt h = absurd (omega arith)
still_before a s n j t le w TooManySilent lt h = absurd (omega arith)
still_before a s n j t le w NotSilent lt h = absurd (omega arith)
still_before a s n j t le w q lt h = h

silent_late : (a : PairAsks) (s : Values) (n j : ℕ) (t : Values) → n < a.system.count → j + 1 < a.system.within → (q : Reason) → IsWrongSilent a s n j t q → IsEvaluated q
silent_late a s n j t le w WrongMark h = absurd (omega arith)
silent_late a s n j t le w TooManySilent h = absurd (omega arith)
silent_late a s n j t le w NotSilent h = tt
silent_late a s n j t le w q h = absurd h

pub silent_told : (a : PairAsks) (s : Values) (n j : ℕ) (t : Values) (told : Told) → n < a.system.count → j + 1 < a.system.within → Tells (a.system.Silent s t) (a.FaultSilent s t) told
    → IsFound a (behind n j s) (Some (shown Silent t)) (found_of told NotSilent true)
silent_told a s n j t Holds le w h = ((le, omega arith, h.0), h.1)
silent_told a s n j t Fails le w h = record { holds = h.0; first = still_before a s n j t le w; quiet = λ l. h.1 }
silent_told a s n j t (ToldFault f) le w h = record { faults = h; first = silent_late a s n j t le w }

-- the step of a line
line_before : (a : PairAsks) (s : Values) (n : ℕ) (at : LineAt) (t : Values) (q : Reason) → rank q < 4 → IsWrongLine a s n at t q → ⊥
line_before a s n at t WrongLine lt h = absurd (omega arith)
line_before a s n at t NotStep lt h = absurd (omega arith)
line_before a s n at t NotSeen lt h = absurd (omega arith)
line_before a s n at t q lt h = h

pub line_wrong : (a : PairAsks) (s : Values) (n j : ℕ) (at : LineAt) (t : Values) → ((a.system.count ≤ n) ⊎ (at ≢ a.system.at n s t)) → IsFound a (behind n j s) (Some (shown (Line at) t)) (Wrong WrongLine)
line_wrong a s n j at t h = record { holds = h; first = line_before a s n at t; quiet = λ e f b. e }

step_before : (a : PairAsks) (s : Values) (n : ℕ) (at : LineAt) (t : Values) → n < a.system.count → at ≡ a.system.at n s t → (q : Reason) → rank q < 6 → IsWrongLine a s n at t q → ⊥
step_before a s n at t le is WrongLine lt h = elim h [ inl b ↦ absurd (omega arith) | inr b ↦ b is ]
step_before a s n at t le is NotStep lt h = absurd (omega arith)
step_before a s n at t le is NotSeen lt h = absurd (omega arith)
step_before a s n at t le is q lt h = h

pub line_still : (a : PairAsks) (s : Values) (n j : ℕ) (at : LineAt) (t : Values) → n < a.system.count → at ≡ a.system.at n s t → (a.Moves n s t → ⊥)
    → IsFound a (behind n j s) (Some (shown (Line at) t)) (Wrong NotStep)
line_still a s n j at t le is h = record { holds = (λ o. h o.moves, inl h); first = step_before a s n at t le is; quiet = λ e f b. h b.1.0 }

pub line_stays : (a : PairAsks) (s : Values) (n j : ℕ) (at : LineAt) (t : Values) → IsComposed a → n < a.system.count → at ≡ a.system.at n s t → IsRest a n s t
    → IsFound a (behind n j s) (Some (shown (Line at) t)) Clean
line_stays a s n j at t ok le is o = ((le, is, (ok.step n s t).1 (inr o)), λ f b. b.0 o)

seen_before : (a : PairAsks) (s : Values) (n : ℕ) (at : LineAt) (t : Values) → n < a.system.count → at ≡ a.system.at n s t → a.Moves n s t → a.Acts n s t → (q : Reason) → rank q < 7 → IsWrongLine a s n at t q → ⊥
seen_before a s n at t le is m o WrongLine lt h = elim h [ inl b ↦ absurd (omega arith) | inr b ↦ b is ]
seen_before a s n at t le is m o NotStep lt h = elim h.1 [ inl b ↦ b m | inr b ↦ b o ]
seen_before a s n at t le is m o NotSeen lt h = absurd (omega arith)
seen_before a s n at t le is m o q lt h = h

line_late : (a : PairAsks) (s : Values) (n : ℕ) (at : LineAt) (t : Values) → n < a.system.count → at ≡ a.system.at n s t → (q : Reason) → IsWrongLine a s n at t q → IsEvaluated q
line_late a s n at t le is WrongLine h = elim h [ inl b ↦ absurd (omega arith) | inr b ↦ absurd (b is) ]
line_late a s n at t le is NotStep h = tt
line_late a s n at t le is NotSeen h = tt
line_late a s n at t le is q h = absurd h

pub line_told : (a : PairAsks) (s : Values) (n j : ℕ) (at : LineAt) (t : Values) (told : Told) (seen : Bool) → IsComposed a → n < a.system.count → at ≡ a.system.at n s t → a.Moves n s t
    → (IsRest a n s t → ⊥) → Tells (a.Acts n s t) (a.FaultActs n s t) told → (IsTrue seen ↔ a.system.Seen n s t)
    → IsFound a (behind n j s) (Some (shown (Line at) t)) (found_of told NotStep seen)
line_told a s n j at t Holds true ok le is m o h e = ((le, is, (ok.step n s t).1 (inl (record { moves = m; acts = h.0; shows = e.0 refl }))), λ f b. h.1 f b.1.1)
line_told a s n j at t Holds false ok le is m o h e = record { holds = λ i. not_false (e.1 i); first = seen_before a s n at t le is m h.0; quiet = λ l f b. h.1 f b.1.1 }
line_told a s n j at t Fails seen ok le is m o h e = record { holds = (o, inr h.0); first = step_before a s n at t le is; quiet = λ l f b. h.1 f b.1.1 }
line_told a s n j at t (ToldFault f) seen ok le is m o h e = record { faults = (o, (m, h)); first = line_late a s n at t le is }
