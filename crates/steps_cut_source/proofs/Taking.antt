-- The lines that may be taken at a cut, as the code finds them.
use Rattle.std.proofs.Common.{◌≡◌, ◌≢◌, inl, inr, ℕ, zero, suc, ◌+◌, ◌<◌, ◌≤◌, ◌==◌, Bool, true, false, List, [], ◌∷◌, length, Option, Some, None, ap, sym, ◌∙◌, subst, refl, arith, if◌then◌else◌}
use Rattle.std.specs.Prelude.{slice_get}
use Rattle.std.proofs.lemmas.Bool.Decides.{nat_tests}
use Rattle.base_core.specs.declared.place.LineAt.{LineAt}
use Rattle.base_clock_order.specs.declared.order.LineRef.{LineRef}
use Rattle.logs_updates.specs.declared.line.Line.{Line}
use Rattle.steps_lines_defs.specs.Logs.{place_of_line}
use Rattle.base_cuts.specs.Cuts.{Cut, next, taken}
use Rattle.base_cuts.specs.Orders.{IsReadyAt, Order}
use Rattle.base_cuts.proofs.Growing.{nat_lt_or}
use Rattle.logs_tied.specs.Lines.{StandsIn}
use Rattle.steps_tied.specs.Tied.{IsFirstReady, line_at, line_in, moved}
use Rattle.steps_tied.proofs.Ties.{stands_line}

-- WHERE A LINE STANDS

-- none stands there that is told of
none_there : (files : List (List Line)) (l : LineRef) → ((line : Line) → StandsIn files l line → ⊥) → line_at files l ≡ None
none_there files l none = at_log (slice_get files l.file) refl
  where
    at_line : (log : List Line) → slice_get files l.file ≡ Some log → (o : Option Line) → slice_get log l.index ≡ o → o ≡ None
    at_line log e None h = refl
    at_line log e (Some x) h = absurd (none x (log, e, h))

    at_log : (o : Option (List Line)) → slice_get files l.file ≡ o → line_at files l ≡ None
    at_log None e = ap (λ z. line_in z l.index) e
    at_log (Some log) e = ap (λ z. line_in z l.index) e ∙ at_line log e (slice_get log l.index) refl

module _ (files : List (List Line)) (c : Cut) (f : ℕ) where
  pub place_none : ((line : Line) → StandsIn files (next c f) line → ⊥) → record { file = 0; line = 0 } ≡ place_of_line (line_at files (next c f))
  place_none none = sym (ap place_of_line (none_there files (next c f) none))

  pub place_some : (line : Line) → StandsIn files (next c f) line → line.at ≡ place_of_line (line_at files (next c f))
  place_some line s = sym (ap place_of_line (stands_line files (next c f) line s))

-- the first log's line among those that are ready
pub is_first_ready : (files : List (List Line)) (o : Order) (c : Cut) (f : ℕ) → IsReadyAt o c (next c f) → ((other : LineRef) → IsReadyAt o c other → f ≤ other.file) → (line : Line)
    → StandsIn files (next c f) line → IsFirstReady files o c line.at
is_first_ready files o c f ready first line stands = record { place = next c f; ready = ready; first = first; line = line; stands = stands; is = refl }

-- where a line stands, told of equal cuts
pub at_same : (files : List (List Line)) (c d a b : Cut) (at : LineAt) → c ≡ a → d ≡ b → at ≡ place_of_line (line_at files (next c (moved c d))) → at ≡ place_of_line (line_at files (next a (moved a b)))
at_same files c d a b at p q h = h ∙ (λ i. place_of_line (line_at files (next (p i) (moved (p i) (q i)))))

-- THE LOG IN WHICH TWO CUTS DIFFER

same_nat : (n : ℕ) → (n == n) ≡ true
same_nat n = grind (arith, nat_tests)

other_nat : (m n : ℕ) → m ≢ n → (m == n) ≡ false
other_nat m n h = grind (arith, nat_tests)

-- they take the same number of lines of each of the first n logs
abbrev pub AreSame : Cut → Cut → ℕ → Type 0
AreSame c d n = (i : ℕ) → i < n → taken c i ≡ taken d i

pub same_yet : (c d : Cut) → AreSame c d 0
same_yet c d i h = absurd (omega (arith, h))

pub same_more : (c d : Cut) (n : ℕ) → AreSame c d n → taken c n ≡ taken d n → AreSame c d (n + 1)
same_more c d n h last i l = elim (nat_lt_or i n) [
  | inl less ↦ h i less
  | inr over ↦ let same : n ≡ i = omega (arith, l, over) in subst (λ (k : ℕ). taken c k ≡ taken d k) same last
]

pub moved_there : (c d : Cut) (n : ℕ) → n < length c → length d ≡ length c → AreSame c d n → taken c n ≢ taken d n → n ≡ moved c d
moved_there [] d n h long same off = absurd (omega (arith, h))
moved_there (x ∷ xs) [] n h long same off = absurd (omega (arith, long))
moved_there (x ∷ xs) (y ∷ ys) zero h long same off = sym (ap (λ (b : Bool). if b then suc (moved xs ys) else 0) (other_nat x y off))
moved_there (x ∷ xs) (y ∷ ys) (suc n) h long same off =
    let first : x ≡ y = same 0 (omega arith) in
    let test : (x == y) ≡ true = subst (λ (z : ℕ). (x == z) ≡ true) first (same_nat x) in
    ap suc (moved_there xs ys n (omega (arith, h)) (omega (arith, long)) (λ i l. same (suc i) (omega (arith, l))) off)
    ∙ sym (ap (λ (b : Bool). if b then suc (moved xs ys) else 0) test)

pub moved_none : (c d : Cut) (n : ℕ) → length c ≤ n → length d ≡ length c → AreSame c d n → length c ≡ moved c d
moved_none [] d n h long same = refl
moved_none (x ∷ xs) [] n h long same = absurd (omega (arith, long))
moved_none (x ∷ xs) (y ∷ ys) zero h long same = absurd (omega (arith, h))
moved_none (x ∷ xs) (y ∷ ys) (suc n) h long same =
    let first : x ≡ y = same 0 (omega arith) in
    let test : (x == y) ≡ true = subst (λ (z : ℕ). (x == z) ≡ true) first (same_nat x) in
    ap suc (moved_none xs ys n (omega (arith, h)) (omega (arith, long)) (λ i l. same (suc i) (omega (arith, l))))
    ∙ sym (ap (λ (b : Bool). if b then suc (moved xs ys) else 0) test)
