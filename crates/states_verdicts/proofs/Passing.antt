-- One pass over the states.
use Rattle.std.proofs.Common.{◌≡◌, ◌≤◌, ◌<◌, ◌+◌, ◌-◌, ◌^◌, ℕ, suc, List, [], ◌∷◌, length, arith, refl, sym, subst, ap, ◌∙◌, inl, inr, Some, None, Option, take}
use Rattle.std.specs.List.{slice_get}
use Rattle.std.specs.Prelude.{All, Result, Ok, Err, IfOk}
use Rattle.std.proofs.lemmas.Bool.{cases_lt}
use Rattle.std.proofs.lemmas.Option.{slice_get_past, slice_get_within, get_or_from_slice_get}
use Rattle.std.proofs.lemmas.List.Elements.{All-get_or}
use Rattle.states_core.specs.States.{Values}
use Rattle.states_core.specs.Runs.{Run}
use Rattle.states_core.specs.declared.state.Mark.{Mark}
use Rattle.states_core.specs.declared.state.Mark.TheVariants.{Init, Silent, Line}
use Rattle.states_core.specs.declared.state.Shown.{Shown}
use Rattle.states_verdicts.specs.Asks.{PairAsks, IsComposed, IsSmall}
use Rattle.states_verdicts.specs.Cleans.{Reached, nowhere, reach, reached, reached_at, line_after, silents_after, FitsAt, IsClean, IsCleanAt, AreClean}
use Rattle.states_verdicts.specs.Verdicts.{IsReason, IsWrongEnd, IsVerdict, rank}
use Rattle.states_verdicts.specs.Founds.{IsFound, behind}
use Rattle.states_verdicts.specs.Passes.{HasCome, most}
use Rattle.states_verdicts.specs.declared.judging.Found.{Found}
use Rattle.states_verdicts.specs.declared.verdict.Reason.{Reason}
use Rattle.states_verdicts.specs.declared.verdict.Reason.TheVariants.{NoState, LinesLeft}
use Rattle.states_verdicts.specs.declared.verdict.Verdict.TheVariants.{Valid, Invalid}
use Rattle.states_verdicts.proofs.Lists.{take_more, take_past}
use Rattle.states_verdicts.proofs.Runs.{reached_push, run_reached, clean_some, span_whole, run_end}

pub reached_take : (w : List Shown) (i k : ℕ) (x : Shown) → k ≡ i + 1 → slice_get w i ≡ Some x → reached_at w k ≡ reach (reached_at w i) x
reached_take w i k x n e =
    let h : suc i ≡ k = omega arith in
    subst (λ (m : ℕ). reached_at w m ≡ reach (reached_at w i) x) h (ap (λ (u : List Shown). reached nowhere u) (take_more w i x e) ∙ reached_push nowhere (take i w) x)

same_place : (p : Reached) (n j : ℕ) (s : Values) → p.line ≡ n → p.silents ≡ j → p.last ≡ Some s → p ≡ behind n j s
same_place p n j s e f g = ap (λ (m : ℕ). record { line = m; silents = p.silents; last = p.last }) e
    ∙ ap (λ (m : ℕ). record { line = n; silents = m; last = p.last }) f ∙ ap (λ (l : Option Values). record { line = n; silents = j; last = l }) g

pub last_of : (w : List Shown) (i : ℕ) (y : Shown) → 0 < i → slice_get w (i - 1) ≡ Some y → (reached_at w i).last ≡ Some y.state
last_of w i y lt e = ap (λ (p : Reached). p.last) (reached_take w (i - 1) i y (omega arith) e)

pub find_later : (a : PairAsks) (w : List Shown) (i n j : ℕ) (y x : Shown) (f : Found) → HasCome a w i n j → 0 < i → slice_get w (i - 1) ≡ Some y → slice_get w i ≡ Some x
    → IsFound a (behind n j y.state) (Some x) f → IsFound a (reached_at w i) (slice_get w i) f
find_later a w i n j y x f c lt e g h =
    let p : reached_at w i ≡ behind n j y.state = same_place (reached_at w i) n j y.state c.line c.silents (last_of w i y lt e) in
    rw (p, g) h

-- how far one more clean state comes
record Bounds (a : PairAsks) (last : Option Values) (n j i : ℕ) (m : Mark) (t : Values) : Type 0 where
  lines : line_after m n ≤ a.system.count
  few : silents_after m j < a.system.within
  index : i + 1 ≤ most (Some t) (line_after m n) (silents_after m j)

fit_bounds : (a : PairAsks) → IsSmall a → (last : Option Values) (n j i : ℕ) (m : Mark) (t : Values) → FitsAt a last n j m t → n ≤ a.system.count → j < a.system.within → i ≤ most last n j
    → Bounds a last n j i m t
fit_bounds a small None n j i Init t f le few at = record { lines = le; few = (let k = small.some in omega arith); index = omega arith }
fit_bounds a small None n j i Silent t f le few at = absurd f
fit_bounds a small None n j i (Line l) t f le few at = absurd f
fit_bounds a small (Some s) n j i Init t f le few at = absurd f
fit_bounds a small (Some s) n j i Silent t f le few at = record { lines = le; few = f.1; index = omega arith }
fit_bounds a small (Some s) n j i (Line l) t f le few at = record { lines = f.0; few = (let k = small.some in omega arith); index = (let k = small.within in omega arith) }

pub come_more : (a : PairAsks) (w : List Shown) (i n j m k : ℕ) (x : Shown) → IsSmall a → HasCome a w i n j → slice_get w i ≡ Some x → IsClean a (reached_at w i) (slice_get w i)
    → m ≡ line_after x.mark n → k ≡ silents_after x.mark j → HasCome a w (i + 1) m k
come_more a w i n j m k x small c e now f g =
    let p : reached_at w (i + 1) ≡ reach (reached_at w i) x = reached_take w i (i + 1) x refl e in
    let here : IsClean a (reached_at w i) (Some x) = subst (λ (z : Option Shown). IsClean a (reached_at w i) z) e now in
    let fits : FitsAt a (reached_at w i).last n j x.mark x.state =
    subst (λ (q : ℕ). FitsAt a (reached_at w i).last n q x.mark x.state) c.silents
    (subst (λ (q : ℕ). FitsAt a (reached_at w i).last q (reached_at w i).silents x.mark x.state) c.line here.0) in
    let b = fit_bounds a small (reached_at w i).last n j i x.mark x.state fits c.lines c.few c.index in
    let is_last : Some x.state ≡ (reached_at w (i + 1)).last = sym (ap (λ (q : Reached). q.last) p) in
    record {
      clean = λ q lt. elim (cases_lt q i) [ inl less ↦ c.clean q less | inr more ↦ (let same : i ≡ q = omega arith in subst (λ (r : ℕ). IsCleanAt a w r) same now) ];
      line = ap (λ (q : Reached). q.line) p ∙ ap (λ (q : ℕ). line_after x.mark q) c.line ∙ sym f;
      silents = ap (λ (q : Reached). q.silents) p ∙ ap (λ (q : ℕ). silents_after x.mark q) c.silents ∙ sym g;
      lines = subst (λ (q : ℕ). q ≤ a.system.count) (sym f) b.lines;
      few = subst (λ (q : ℕ). q < a.system.within) (sym g) b.few;
      index = subst (λ (l : Option Values). i + 1 ≤ most l m k) is_last
          (subst (λ (q : ℕ). i + 1 ≤ most (Some x.state) m q) (sym g) (subst (λ (q : ℕ). i + 1 ≤ most (Some x.state) q (silents_after x.mark j)) (sym f) b.index));
    }

most_small : (last : Option Values) (n j i : ℕ) → n ≤ 200000 → j < 8 → i ≤ most last n j → i < 2 ^ 32
most_small None n j i le few at = omega arith
most_small (Some s) n j i le few at = omega arith

pub few_states : (a : PairAsks) (w : List Shown) (i n j : ℕ) → IsSmall a → HasCome a w i n j → i < 2 ^ 32
few_states a w i n j small c = most_small (reached_at w i).last n j i
    (let h = c.lines in let l = small.lines in omega arith) (let h = c.few in let l = small.within in omega arith) c.index

pub line_room : (a : PairAsks) (w : List Shown) (i n j : ℕ) → IsSmall a → HasCome a w i n j → n + 1 < 2 ^ 32
line_room a w i n j small c = (let h = c.lines in let l = small.lines in omega arith)

pub silents_room : (a : PairAsks) (w : List Shown) (i n j : ℕ) → IsSmall a → HasCome a w i n j → j + 1 < 2 ^ 32
silents_room a w i n j small c = (let h = c.few in let l = small.within in omega arith)

pub all_valid : (a : PairAsks) (w : List Shown) (i n j : ℕ) → IsComposed a → i ≡ length w → 0 < i → HasCome a w i n j → a.system.count ≤ n → IsVerdict a w Valid
all_valid a w i n j ok is some c le =
    let clean : AreClean a w (length w) = subst (λ (k : ℕ). AreClean a w k) is c.clean in
    let r = span_whole a ok w (omega arith) clean in
    let p = run_reached a ok r.0 r.1 r.2 w r.3 in
    let whole : (reached nowhere (take (length w) w)).line ≡ n = subst (λ (k : ℕ). (reached nowhere (take k w)).line ≡ n) is c.line in
    let here : (reached nowhere w).line ≡ n = subst (λ (u : List Shown). (reached nowhere u).line ≡ n) (take_past w (length w) (omega arith)) whole in
    let same : r.0 ≡ n = sym (ap (λ (q : Reached). q.line) p) ∙ here in
    let top : r.0 ≡ a.system.count = (let h = c.lines in omega arith) in
    let none : r.1 ≡ 0 = run_end a r.0 r.1 r.2 w (omega arith) r.3 in
    ((r.2, subst (λ (k : ℕ). Run a.system a.system.count k r.2 w) none (subst (λ (k : ℕ). Run a.system k r.1 r.2 w) top r.3)), clean)

nothing_before : (a : PairAsks) (s : Values) (n : ℕ) (q : Reason) → rank q < 8 → IsWrongEnd a (Some s) n q → ⊥
nothing_before a s n LinesLeft lt h = absurd (omega arith)
nothing_before a s n q lt h = h

end_reason : (a : PairAsks) (p : Reached) (n : ℕ) (s : Values) → p.last ≡ Some s → p.line ≡ n → n < a.system.count → IsReason a p None LinesLeft
end_reason a p n s e f lt = record {
  holds = subst (λ (l : Option Values). IsWrongEnd a l p.line LinesLeft) (sym e) (omega arith);
  first = λ q less h. nothing_before a s p.line q less (subst (λ (l : Option Values). IsWrongEnd a l p.line q) e h);
  quiet = λ l f b. l;
}

pub lines_left : (a : PairAsks) (w : List Shown) (i n j : ℕ) → i ≡ length w → 0 < i → HasCome a w i n j → n < a.system.count → IsVerdict a w (Invalid i LinesLeft)
lines_left a w i n j is some c lt =
    let g : slice_get w i ≡ None = slice_get_past w i (omega arith) in
    let y = clean_some a (reached_at w (i - 1)) (slice_get w (i - 1)) (c.clean (i - 1) (omega arith)) in
    (c.clean, subst (λ (z : Option Shown). IsReason a (reached_at w i) z LinesLeft) (sym g) (end_reason a (reached_at w i) n y.0.state (last_of w i y.0 some y.1) c.line lt))

never : (a : PairAsks) (q : Reason) → rank q < 0 → IsWrongEnd a None 0 q → ⊥
never a q lt h = absurd (omega arith)

pub no_state : (a : PairAsks) (w : List Shown) → length w ≡ 0 → IsVerdict a w (Invalid 0 NoState)
no_state a [] e = ((λ k lt. absurd (omega arith)), record { holds = tt; first = never a; quiet = λ l f b. l })
no_state a (x ∷ w) e = absurd (omega arith)

pub come_none : (a : PairAsks) (w : List Shown) → IsSmall a → HasCome a w 0 0 0
come_none a w small = record { clean = λ k lt. absurd (omega arith); line = refl; silents = refl; lines = omega arith; few = (let k = small.some in omega arith); index = omega arith }

pub if_ok_more : {A E : Type 0} (P Q : A → Type 0) (r : Result A E) → ((x : A) → P x → Q x) → IfOk r P → IfOk r Q
if_ok_more P Q (Ok x) f h = f x h
if_ok_more P Q (Err e) f h = h

pub state_there : (P : Values → Type 0) (w : List Shown) (i : ℕ) (x : Shown) → All (λ y. P y.state) w → slice_get w i ≡ Some x → P x.state
state_there P w i x all e =
    subst (λ (y : Shown). P y.state) (get_or_from_slice_get w i x x e) (All-get_or (λ y. P y.state) w i x (slice_get_within w i x e) all)
