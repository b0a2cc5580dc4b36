-- How a comment goes on.
use Rattle.std.proofs.Common.{◌≡◌, ℕ, zero, suc, ◌+◌, ◌-◌, ◌<◌, ◌≤◌, true, false, List, [], ◌∷◌, length, get_or, drop, Some, None, ◌&&◌, eqb, refl, arith}
use Rattle.std.proofs.lemmas.Bool.Decides.{nat_tests}
use Rattle.reading_tokens.specs.Shapes.{after_comment}

suc_add : (m n : ℕ) → suc m + n ≡ suc (m + n)
suc_add m n = omega arith

-- two bytes and the rest
two_of : (text : List ℕ) (at : ℕ) → at + 2 ≤ length text → drop at text ≡ get_or text at 0 ∷ get_or text (at + 1) 0 ∷ drop (at + 2) text
two_of [] at h = absurd (omega arith)
two_of (b ∷ []) at h = absurd (omega arith)
two_of (b ∷ c ∷ bs) zero h = refl
two_of (b ∷ c ∷ bs) (suc at) h = rw (suc_add at 1, suc_add at 2) (two_of (c ∷ bs) at (omega arith))

one_of : (text : List ℕ) (at : ℕ) → at + 2 ≤ length text → drop (at + 1) text ≡ get_or text (at + 1) 0 ∷ drop (at + 2) text
one_of [] at h = absurd (omega arith)
one_of (b ∷ []) at h = absurd (omega arith)
one_of (b ∷ c ∷ bs) zero h = refl
one_of (b ∷ c ∷ bs) (suc at) h = rw (suc_add at 1, suc_add at 2) (one_of (c ∷ bs) at (omega arith))

module _ (depth : ℕ) (text : List ℕ) (at : ℕ) (h : at + 2 ≤ length text) where
  pub comment_opens : (eqb (get_or text at 0) 40 && eqb (get_or text (at + 1) 0) 42) ≡ true → after_comment depth (drop at text) ≡ after_comment (depth + 1) (drop (at + 2) text)
  unfolding after_comment
  comment_opens e = rw (two_of text at h) (rw e refl)

  pub comment_closes : (eqb (get_or text at 0) 40 && eqb (get_or text (at + 1) 0) 42) ≡ false → (eqb (get_or text at 0) 42 && eqb (get_or text (at + 1) 0) 41) ≡ true → 1 < depth → after_comment depth (drop at text) ≡ after_comment (depth - 1) (drop (at + 2) text)
  unfolding after_comment
  comment_closes e f g = rw (two_of text at h) (rw (e, f) (grind (arith, nat_tests)))

  pub comment_ends : (eqb (get_or text at 0) 40 && eqb (get_or text (at + 1) 0) 42) ≡ false → (eqb (get_or text at 0) 42 && eqb (get_or text (at + 1) 0) 41) ≡ true → depth ≤ 1 → after_comment depth (drop at text) ≡ Some (drop (at + 2) text)
  unfolding after_comment
  comment_ends e f g = rw (two_of text at h) (rw (e, f) (grind (arith, nat_tests)))

  pub comment_goes : (eqb (get_or text at 0) 40 && eqb (get_or text (at + 1) 0) 42) ≡ false → (eqb (get_or text at 0) 42 && eqb (get_or text (at + 1) 0) 41) ≡ false → after_comment depth (drop at text) ≡ after_comment depth (drop (at + 1) text)
  unfolding after_comment
  comment_goes e f = rw (two_of text at h, one_of text at h) (rw (e, f) refl)

pub comment_stops : (depth : ℕ) (text : List ℕ) (at : ℕ) → length text < at + 2 → after_comment depth (drop at text) ≡ None
unfolding after_comment
comment_stops depth [] zero h = refl
comment_stops depth [] (suc at) h = refl
comment_stops depth (b ∷ []) zero h = refl
comment_stops depth (b ∷ c ∷ bs) zero h = absurd (omega arith)
comment_stops depth (b ∷ bs) (suc at) h = comment_stops depth bs at (omega arith)
