-- Verdicts on given states, where the same is asked of them.
use Rattle.std.proofs.Common.{inl, inr, subst, sym, ◌∙◌, List, length}
use Rattle.std.specs.Prelude.{◌≢◌, ◌⊎◌, ℕ, suc, ◌<◌, ◌≤◌, Option, None, Some, slice_get}
use Rattle.base_core.specs.declared.place.LineAt.{LineAt}
use Rattle.states_core.specs.States.{Values}
use Rattle.states_core.specs.declared.fault.Fault.{Fault}
use Rattle.states_core.specs.declared.state.Mark.{Mark}
use Rattle.states_core.specs.declared.state.Mark.TheVariants.{Init, Silent, Line}
use Rattle.states_core.specs.declared.state.Shown.{Shown}
use Rattle.states_verdicts.specs.Asks.{PairAsks, IsRest}
use Rattle.states_verdicts.specs.Cleans.{Reached, IsQuiet, FitsAt, FaultsAt, Faults, IsClean, AreClean, reached_at}
use Rattle.states_verdicts.specs.Verdicts.{IsWrongFirst, IsWrongSilent, IsWrongLine, IsWrongAt, IsWrongEnd, IsWrong, IsReason, IsFault, IsVerdict}
use Rattle.states_verdicts.specs.declared.verdict.Reason.{Reason}
use Rattle.states_verdicts.specs.declared.verdict.Reason.TheVariants.{NoState, WrongMark, NotInit, TooManySilent, WrongLine, NotSilent, NotStep, NotSeen, LinesLeft}
use Rattle.states_verdicts.specs.declared.verdict.Verdict.{Verdict}
use Rattle.states_verdicts.specs.declared.verdict.Verdict.TheVariants.{Valid, Invalid, Fault as Faulted}
use Rattle.twice_logs.specs.Same.{AskSame}
use Rattle.twice_logs.proofs.Turns.{asked_back}
use Rattle.twice_logs.proofs.Answered.{behaves_same}

module _ (a b : PairAsks) (same : AskSame a b) where
  rest_same : (n : ℕ) (s t : Values) → IsRest a n s t → IsRest b n s t
  rest_same n s t r = record {
    allowed = (same.stutters n).0 r.allowed;
    same = r.same;
    moves = (same.moves n s t).0 r.moves;
    shows = (same.systems.seen n s t).0 r.shows;
  }

  count_below : (n : ℕ) → n < a.system.count → n < b.system.count
  count_below n h = subst (λ (c : ℕ). n < c) same.systems.count h

  within_below : (j : ℕ) → j < a.system.within → j < b.system.within
  within_below j h = subst (λ (c : ℕ). j < c) same.systems.within h

  count_upto : (n : ℕ) → a.system.count ≤ n → b.system.count ≤ n
  count_upto n h = subst (λ (c : ℕ). c ≤ n) same.systems.count h

  within_upto : (j : ℕ) → a.system.within ≤ j → b.system.within ≤ j
  within_upto j h = subst (λ (c : ℕ). c ≤ j) same.systems.within h

  fits_same : (last : Option Values) (n j : ℕ) (m : Mark) (t : Values) → FitsAt a last n j m t → FitsAt b last n j m t
  fits_same None n j Init t h = ((same.systems.init t).0 h.0, (same.systems.init_seen t).0 h.1)
  fits_same None n j Silent t h = absurd h
  fits_same None n j (Line at) t h = absurd h
  fits_same (Some s) n j Init t h = absurd h
  fits_same (Some s) n j Silent t h = (count_below n h.0, within_below (suc j) h.1, (same.systems.silent s t).0 h.2)
  fits_same (Some s) n j (Line at) t h = (count_below n h.0, h.1 ∙ same.systems.at n s t, (same.systems.step n s t).0 h.2)

module _ (a b : PairAsks) (same : AskSame a b) where
  faults_at_same : (last : Option Values) (n : ℕ) (m : Mark) (t : Values) (f : Fault) → FaultsAt a last n m t f → FaultsAt b last n m t f
  faults_at_same None n Init t f h = (same.fault_init t f).0 h
  faults_at_same None n Silent t f h = absurd h
  faults_at_same None n (Line at) t f h = absurd h
  faults_at_same (Some s) n Init t f h = absurd h
  faults_at_same (Some s) n Silent t f h = (same.fault_silent s t f).0 h
  faults_at_same (Some s) n (Line at) t f h =
      (λ r. h.0 (rest_same b a (asked_back a b same) n s t r), ((same.moves n s t).0 h.1.0, (same.fault_acts n s t f).0 h.1.1))

  faults_same : (p : Reached) (x : Option Shown) (f : Fault) → Faults a p x f → Faults b p x f
  faults_same p None f h = absurd h
  faults_same p (Some x) f h = faults_at_same p.last p.line x.mark x.state f h

  first_wrong : (m : Mark) (t : Values) (r : Reason) → IsWrongFirst a m t r → IsWrongFirst b m t r
  first_wrong m t WrongMark h = h
  first_wrong m t NotInit h = λ i. h ((same.systems.init t).1 i)
  first_wrong m t NotSeen h = λ i. h ((same.systems.init_seen t).1 i)
  first_wrong m t NoState h = absurd h
  first_wrong m t TooManySilent h = absurd h
  first_wrong m t WrongLine h = absurd h
  first_wrong m t NotSilent h = absurd h
  first_wrong m t NotStep h = absurd h
  first_wrong m t LinesLeft h = absurd h

  silent_wrong : (s : Values) (n j : ℕ) (t : Values) (r : Reason) → IsWrongSilent a s n j t r → IsWrongSilent b s n j t r
  silent_wrong s n j t WrongMark h = count_upto a b same n h
  silent_wrong s n j t TooManySilent h = within_upto a b same (suc j) h
  silent_wrong s n j t NotSilent h = λ i. h ((same.systems.silent s t).1 i)
  silent_wrong s n j t NoState h = absurd h
  silent_wrong s n j t NotInit h = absurd h
  silent_wrong s n j t WrongLine h = absurd h
  silent_wrong s n j t NotStep h = absurd h
  silent_wrong s n j t NotSeen h = absurd h
  silent_wrong s n j t LinesLeft h = absurd h

  line_wrong_place : (s : Values) (n : ℕ) (at : LineAt) (t : Values) → (a.system.count ≤ n) ⊎ (at ≢ a.system.at n s t) → (b.system.count ≤ n) ⊎ (at ≢ b.system.at n s t)
  line_wrong_place s n at t (inl h) = inl (count_upto a b same n h)
  line_wrong_place s n at t (inr h) = inr (λ e. h (e ∙ sym (same.systems.at n s t)))

  parts_wrong : (n : ℕ) (s t : Values) → (a.Moves n s t → ⊥) ⊎ (a.Acts n s t → ⊥) → (b.Moves n s t → ⊥) ⊎ (b.Acts n s t → ⊥)
  parts_wrong n s t (inl h) = inl (λ m. h ((same.moves n s t).1 m))
  parts_wrong n s t (inr h) = inr (λ m. h ((same.acts n s t).1 m))

  line_wrong : (s : Values) (n : ℕ) (at : LineAt) (t : Values) (r : Reason) → IsWrongLine a s n at t r → IsWrongLine b s n at t r
  line_wrong s n at t WrongLine h = line_wrong_place s n at t h
  line_wrong s n at t NotStep h = (λ r. h.0 (rest_same b a (asked_back a b same) n s t r), parts_wrong n s t h.1)
  line_wrong s n at t NotSeen h = λ i. h ((same.systems.seen n s t).1 i)
  line_wrong s n at t NoState h = absurd h
  line_wrong s n at t WrongMark h = absurd h
  line_wrong s n at t NotInit h = absurd h
  line_wrong s n at t TooManySilent h = absurd h
  line_wrong s n at t NotSilent h = absurd h
  line_wrong s n at t LinesLeft h = absurd h

  at_wrong : (last : Option Values) (n j : ℕ) (m : Mark) (t : Values) (r : Reason) → IsWrongAt a last n j m t r → IsWrongAt b last n j m t r
  at_wrong None n j m t r h = first_wrong m t r h
  at_wrong (Some s) n j Init t r h = h
  at_wrong (Some s) n j Silent t r h = silent_wrong s n j t r h
  at_wrong (Some s) n j (Line at) t r h = line_wrong s n at t r h

  end_wrong : (last : Option Values) (n : ℕ) (r : Reason) → IsWrongEnd a last n r → IsWrongEnd b last n r
  end_wrong None n NoState h = h
  end_wrong None n WrongMark h = absurd h
  end_wrong None n NotInit h = absurd h
  end_wrong None n TooManySilent h = absurd h
  end_wrong None n WrongLine h = absurd h
  end_wrong None n NotSilent h = absurd h
  end_wrong None n NotStep h = absurd h
  end_wrong None n NotSeen h = absurd h
  end_wrong None n LinesLeft h = absurd h
  end_wrong (Some s) n LinesLeft h = count_below a b same n h
  end_wrong (Some s) n NoState h = absurd h
  end_wrong (Some s) n WrongMark h = absurd h
  end_wrong (Some s) n NotInit h = absurd h
  end_wrong (Some s) n TooManySilent h = absurd h
  end_wrong (Some s) n WrongLine h = absurd h
  end_wrong (Some s) n NotSilent h = absurd h
  end_wrong (Some s) n NotStep h = absurd h
  end_wrong (Some s) n NotSeen h = absurd h

  wrong_same : (p : Reached) (x : Option Shown) (r : Reason) → IsWrong a p x r → IsWrong b p x r
  wrong_same p None r h = end_wrong p.last p.line r h
  wrong_same p (Some x) r h = at_wrong p.last p.line p.silents x.mark x.state r h

module _ (a b : PairAsks) (same : AskSame a b) where
  asked_other : AskSame b a
  asked_other = asked_back a b same

  quiet_same : (p : Reached) (x : Option Shown) → IsQuiet (Faults a p x) → IsQuiet (Faults b p x)
  quiet_same p x q f h = q f (faults_same b a asked_other p x f h)

  clean_same : (p : Reached) (x : Option Shown) → IsClean a p x → IsClean b p x
  clean_same p None h = absurd h
  clean_same p (Some x) h = (fits_same a b same p.last p.line p.silents x.mark x.state h.0, quiet_same p (Some x) h.1)

  all_clean : (w : List Shown) (i : ℕ) → AreClean a w i → AreClean b w i
  all_clean w i c k lt = clean_same (reached_at w k) (slice_get w k) (c k lt)

  reason_same : (p : Reached) (x : Option Shown) (r : Reason) → IsReason a p x r → IsReason b p x r
  reason_same p x r h = record {
    holds = wrong_same a b same p x r h.holds;
    first = λ q lt wrong. h.first q lt (wrong_same b a asked_other p x q wrong);
    quiet = λ e. quiet_same p x (h.quiet e);
  }

  fault_same : (p : Reached) (x : Option Shown) (f : Fault) → IsFault a p x f → IsFault b p x f
  fault_same p x f h = record { faults = faults_same a b same p x f h.faults; first = λ r wrong. h.first r (wrong_same b a asked_other p x r wrong) }

  pub verdict_same : (w : List Shown) (v : Verdict) → IsVerdict a w v → IsVerdict b w v
  verdict_same w Valid h = (behaves_same a.system b.system same.systems w h.0, all_clean w (length w) h.1)
  verdict_same w (Invalid i r) h = (all_clean w i h.0, reason_same (reached_at w i) (slice_get w i) r h.1)
  verdict_same w (Faulted i kind at) h = (all_clean w i h.0, fault_same (reached_at w i) (slice_get w i) (record { kind = kind; at = at }) h.1)
