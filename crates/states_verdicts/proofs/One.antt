-- A list has one verdict, but for which fault is named.
use Rattle.std.proofs.Common.{◌≡◌, ◌≤◌, ◌<◌, ℕ, zero, suc, List, length, arith, refl, sym, subst, ap, ◌∙◌, inl, inr, Some, None, Option}
use Rattle.std.specs.List.{slice_get}
use Rattle.std.proofs.lemmas.Bool.{cases_lt}
use Rattle.std.proofs.lemmas.Option.{slice_get_past}
use Rattle.base_core.specs.declared.place.LineAt.{LineAt}
use Rattle.states_core.specs.States.{Values}
use Rattle.states_core.specs.declared.fault.Fault.{Fault}
use Rattle.states_core.specs.declared.state.Mark.{Mark}
use Rattle.states_core.specs.declared.state.Mark.TheVariants.{Init, Silent, Line}
use Rattle.states_core.specs.declared.state.Shown.{Shown}
use Rattle.states_verdicts.specs.Asks.{PairAsks, IsComposed, IsLineStep}
use Rattle.states_verdicts.specs.Cleans.{Reached, nowhere, reached, reached_at, FitsAt, Faults, IsClean, IsCleanAt, AreClean}
use Rattle.states_verdicts.specs.Verdicts.{IsWrongFirst, IsWrongSilent, IsWrongLine, IsWrongAt, IsWrongEnd, IsWrong, rank, IsReason, IsFault, IsVerdict}
use Rattle.states_verdicts.specs.Laws.{HaveOne}
use Rattle.states_verdicts.specs.declared.verdict.Reason.{Reason}
use Rattle.states_verdicts.specs.declared.verdict.Reason.TheVariants.{NoState, WrongMark, NotInit, TooManySilent, WrongLine, NotSilent, NotStep, NotSeen, LinesLeft}
use Rattle.states_verdicts.specs.declared.verdict.Verdict.TheVariants.{Valid, Invalid, Fault as Faulted}
use Rattle.states_verdicts.proofs.Lists.{take_past}
use Rattle.states_verdicts.proofs.Runs.{run_reached}

-- no reason is true of a state that fits
right_first : (a : PairAsks) (t : Values) (r : Reason) → a.system.Init t → a.system.InitSeen t → IsWrongFirst a Init t r → ⊥
right_first a t WrongMark i e h = h refl
right_first a t NotInit i e h = h i
right_first a t NotSeen i e h = h e
right_first a t r i e h = h

right_silent : (a : PairAsks) (s : Values) (n j : ℕ) (t : Values) (r : Reason) → n < a.system.count → suc j < a.system.within → a.system.Silent s t → IsWrongSilent a s n j t r → ⊥
right_silent a s n j t WrongMark lt le o h = absurd (omega arith)
right_silent a s n j t TooManySilent lt le o h = absurd (omega arith)
right_silent a s n j t NotSilent lt le o h = h o
right_silent a s n j t r lt le o h = h

right_line : (a : PairAsks) (s : Values) (n : ℕ) (at : LineAt) (t : Values) (r : Reason) → n < a.system.count → at ≡ a.system.at n s t → IsLineStep a n s t → IsWrongLine a s n at t r → ⊥
right_line a s n at t WrongLine lt is o h = elim h [ inl b ↦ absurd (omega arith) | inr b ↦ b is ]
right_line a s n at t NotStep lt is (inl o) h = elim h.1 [ inl b ↦ b o.moves | inr b ↦ b o.acts ]
right_line a s n at t NotStep lt is (inr o) h = h.0 o
right_line a s n at t NotSeen lt is (inl o) h = h o.shows
right_line a s n at t NotSeen lt is (inr o) h = h o.shows
right_line a s n at t r lt is o h = h

right : (a : PairAsks) → IsComposed a → (last : Option Values) (n j : ℕ) (m : Mark) (t : Values) (r : Reason) → FitsAt a last n j m t → IsWrongAt a last n j m t r → ⊥
right a ok None n j Init t r f h = right_first a t r f.0 f.1 h
right a ok None n j Silent t r f h = f
right a ok None n j (Line at) t r f h = f
right a ok (Some s) n j Init t r f h = f
right a ok (Some s) n j Silent t r f h = right_silent a s n j t r f.0 f.1 f.2 h
right a ok (Some s) n j (Line at) t r f h = right_line a s n at t r f.0 f.1 ((ok.step n s t).0 f.2) h

clean_right : (a : PairAsks) → IsComposed a → (p : Reached) (x : Option Shown) (r : Reason) → IsClean a p x → IsWrong a p x r → ⊥
clean_right a ok p None r c h = c
clean_right a ok p (Some x) r c h = right a ok p.last p.line p.silents x.mark x.state r c.0 h

clean_quiet : (a : PairAsks) (p : Reached) (x : Option Shown) (f : Fault) → IsClean a p x → Faults a p x f → ⊥
clean_quiet a p None f c h = c
clean_quiet a p (Some x) f c h = c.1 f h

-- one index
one_index : (a : PairAsks) (w : List Shown) (i k : ℕ) → AreClean a w i → AreClean a w k → (IsCleanAt a w i → ⊥) → (IsCleanAt a w k → ⊥) → i ≡ k
one_index a w i k ci ck ni nk = elim (cases_lt i k) [
  | inl less ↦ absurd (ni (ck i less))
  | inr more ↦ elim (cases_lt k i) [ inl less ↦ absurd (nk (ci k less)) | inr again ↦ omega arith ]
]

-- one reason
unrank : ℕ → Reason
unrank zero = NoState
unrank (suc zero) = WrongMark
unrank (suc (suc zero)) = NotInit
unrank (suc (suc (suc zero))) = TooManySilent
unrank (suc (suc (suc (suc zero)))) = WrongLine
unrank (suc (suc (suc (suc (suc zero))))) = NotSilent
unrank (suc (suc (suc (suc (suc (suc zero)))))) = NotStep
unrank (suc (suc (suc (suc (suc (suc (suc zero))))))) = NotSeen
unrank (suc (suc (suc (suc (suc (suc (suc (suc n)))))))) = LinesLeft

unrank-rank : (r : Reason) → unrank (rank r) ≡ r
unfolding unrank
unrank-rank NoState = refl
unrank-rank WrongMark = refl
unrank-rank NotInit = refl
unrank-rank TooManySilent = refl
unrank-rank WrongLine = refl
unrank-rank NotSilent = refl
unrank-rank NotStep = refl
unrank-rank NotSeen = refl
unrank-rank LinesLeft = refl

one_rank : (r q : Reason) → rank r ≡ rank q → r ≡ q
one_rank r q e = sym (unrank-rank r) ∙ ap (λ (n : ℕ). unrank n) e ∙ unrank-rank q

one_reason : (a : PairAsks) (p : Reached) (x : Option Shown) (r q : Reason) → IsReason a p x r → IsReason a p x q → r ≡ q
one_reason a p x r q h g = elim (cases_lt (rank r) (rank q)) [
  | inl less ↦ absurd (g.first r less h.holds)
  | inr more ↦ elim (cases_lt (rank q) (rank r)) [ inl less ↦ absurd (h.first q less g.holds) | inr again ↦ one_rank r q (omega arith) ]
]

no_both : (a : PairAsks) (p : Reached) (x : Option Shown) (r : Reason) (f : Fault) → IsReason a p x r → IsFault a p x f → ⊥
no_both a p x r f h g = h.quiet (g.first r h.holds) f g.faults

-- nothing is wrong with the end of a behaviour
end_right : (a : PairAsks) (s : Values) (r : Reason) → IsWrongEnd a (Some s) a.system.count r → ⊥
end_right a s LinesLeft h = absurd (omega arith)
end_right a s r h = h

valid_not : (a : PairAsks) (w : List Shown) (i : ℕ) → IsVerdict a w Valid → (IsCleanAt a w i → ⊥) → length w ≤ i
valid_not a w i v bad = elim (cases_lt i (length w)) [ inl less ↦ absurd (bad (v.1 i less)) | inr more ↦ more ]

valid_reason : (a : PairAsks) → IsComposed a → (w : List Shown) (i : ℕ) (r : Reason) → IsVerdict a w Valid → IsReason a (reached_at w i) (slice_get w i) r → ⊥
valid_reason a ok w i r v h =
    let past : length w ≤ i = valid_not a w i v (λ c. clean_right a ok (reached_at w i) (slice_get w i) r c h.holds) in
    let here : IsWrong a (reached nowhere w) None r = subst (λ (x : Option Shown). IsWrong a (reached nowhere w) x r) (slice_get_past w i past)
    (subst (λ (u : List Shown). IsWrong a (reached nowhere u) (slice_get w i) r) (take_past w i past) h.holds) in
    end_right a v.0.0 r (subst (λ (p : Reached). IsWrong a p None r) (run_reached a ok a.system.count 0 v.0.0 w v.0.1) here)

valid_fault : (a : PairAsks) (w : List Shown) (i : ℕ) (f : Fault) → IsVerdict a w Valid → IsFault a (reached_at w i) (slice_get w i) f → ⊥
valid_fault a w i f v h =
    let past : length w ≤ i = valid_not a w i v (λ c. clean_quiet a (reached_at w i) (slice_get w i) f c h.faults) in
    subst (λ (x : Option Shown). Faults a (reached_at w i) x f) (slice_get_past w i past) h.faults

pub one_verdict : (a : PairAsks) → IsComposed a → HaveOne a
one_verdict a ok w Valid Valid h g = tt
one_verdict a ok w Valid (Invalid k q) h g = valid_reason a ok w k q h g.1
one_verdict a ok w Valid (Faulted k kind at) h g = valid_fault a w k _ h g.1
one_verdict a ok w (Invalid i r) Valid h g = valid_reason a ok w i r g h.1
one_verdict a ok w (Faulted i kind at) Valid h g = valid_fault a w i _ g h.1
one_verdict a ok w (Invalid i r) (Invalid k q) h g =
    let e : i ≡ k = one_index a w i k h.0 g.0 (λ c. clean_right a ok _ _ r c h.1.holds) (λ c. clean_right a ok _ _ q c g.1.holds) in
    (e, one_reason a _ _ r q h.1 (subst (λ (n : ℕ). IsReason a (reached_at w n) (slice_get w n) q) (sym e) g.1))
one_verdict a ok w (Faulted i kind at) (Faulted k other place) h g = one_index a w i k h.0 g.0 (λ c. clean_quiet a _ _ _ c h.1.faults) (λ c. clean_quiet a _ _ _ c g.1.faults)
one_verdict a ok w (Invalid i r) (Faulted k kind at) h g =
    let e : i ≡ k = one_index a w i k h.0 g.0 (λ c. clean_right a ok _ _ r c h.1.holds) (λ c. clean_quiet a _ _ _ c g.1.faults) in
    no_both a _ _ r (record { kind = kind; at = at }) h.1 (subst (λ (n : ℕ). IsFault a (reached_at w n) (slice_get w n) (record { kind = kind; at = at })) (sym e) g.1)
one_verdict a ok w (Faulted i kind at) (Invalid k r) h g =
    let e : k ≡ i = one_index a w k i g.0 h.0 (λ c. clean_right a ok _ _ r c g.1.holds) (λ c. clean_quiet a _ _ _ c h.1.faults) in
    no_both a _ _ r (record { kind = kind; at = at }) g.1 (subst (λ (n : ℕ). IsFault a (reached_at w n) (slice_get w n) (record { kind = kind; at = at })) (sym e) h.1)
