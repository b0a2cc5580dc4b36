-- How cuts grow.
use Rattle.std.proofs.Common.{◌≡◌, ◌≢◌, ◌⊎◌, inl, inr, ℕ, zero, suc, ◌<◌, ◌≤◌, List, [], ◌∷◌, ◌++◌, length, ap, ◌∙◌, refl, arith}
use Rattle.base_clock_order.specs.declared.order.LineRef.{LineRef}
use Rattle.base_cuts.specs.Cuts.{Cut, IsLineOf, after, nothing, taken, total, with_one}

pub none_past : (c : Cut) (f : ℕ) → length c ≤ f → taken c f ≡ 0
none_past [] f h = refl
none_past (n ∷ ns) zero h = absurd (omega (arith, h))
none_past (n ∷ ns) (suc f) h = none_past ns f (omega (arith, h))

pub with_there : (c : Cut) (f : ℕ) → f < length c → taken (with_one c f) f ≡ suc (taken c f)
with_there [] f h = absurd (omega (arith, h))
with_there (n ∷ ns) zero h = refl
with_there (n ∷ ns) (suc f) h = with_there ns f (omega (arith, h))

pub with_other : (c : Cut) (f g : ℕ) → f ≢ g → taken (with_one c f) g ≡ taken c g
with_other [] f g h = refl
with_other (n ∷ ns) zero zero h = absurd (h refl)
with_other (n ∷ ns) zero (suc g) h = refl
with_other (n ∷ ns) (suc f) zero h = refl
with_other (n ∷ ns) (suc f) (suc g) h = with_other ns f g (λ e. h (ap suc e))

pub with_long : (c : Cut) (f : ℕ) → length (with_one c f) ≡ length c
with_long [] f = refl
with_long (n ∷ ns) zero = refl
with_long (n ∷ ns) (suc f) = ap suc (with_long ns f)

pub nothing_taken : (sizes : Cut) (f : ℕ) → taken (nothing sizes) f ≡ 0
nothing_taken [] f = refl
nothing_taken (n ∷ ns) zero = refl
nothing_taken (n ∷ ns) (suc f) = nothing_taken ns f

pub nothing_long : (sizes : Cut) → length (nothing sizes) ≡ length sizes
nothing_long [] = refl
nothing_long (n ∷ ns) = ap suc (nothing_long ns)

pub nat_two : (m n : ℕ) → (m ≡ n) ⊎ (m ≢ n)
nat_two zero zero = inl refl
nat_two zero (suc n) = inr (λ e. omega (arith, e))
nat_two (suc m) zero = inr (λ e. omega (arith, e))
nat_two (suc m) (suc n) = elim (nat_two m n) [ inl e ↦ inl (ap suc e) | inr h ↦ inr (λ e. h (omega (arith, e))) ]

pub nat_lt_or : (m n : ℕ) → (m < n) ⊎ (n ≤ m)
nat_lt_or m n = grind arith

-- a log that has a line is one of them
pub has_log : (sizes : Cut) (l : LineRef) → IsLineOf sizes l → l.file < length sizes
has_log sizes l h = elim (nat_lt_or l.file (length sizes)) [
  | inl b ↦ b
  | inr b ↦ let z = none_past sizes l.file b in absurd (omega (arith, z, h))
]

pub total_with_one : (c : Cut) (f : ℕ) → f < length c → total (with_one c f) ≡ suc (total c)
total_with_one [] f h = absurd (omega (arith, h))
total_with_one (n ∷ ns) zero h = omega arith
total_with_one (n ∷ ns) (suc f) h = let r = total_with_one ns f (omega (arith, h)) in omega (arith, r)

pub total_within : (c sizes : Cut) → length c ≡ length sizes → ((f : ℕ) → taken c f ≤ taken sizes f) → total c ≤ total sizes
total_within [] [] long h = omega arith
total_within [] (n ∷ ns) long h = omega arith
total_within (m ∷ ms) [] long h = absurd (omega (arith, long))
total_within (m ∷ ms) (n ∷ ns) long h = let r = total_within ms ns (omega (arith, long)) (λ f. h (suc f)) in let first = h 0 in omega (arith, r, first)

all_more : (m : ℕ) (ms : Cut) (n : ℕ) (ns : Cut) → n ≤ m → ((f : ℕ) → taken ns f ≤ taken ms f) → (f : ℕ) → taken (n ∷ ns) f ≤ taken (m ∷ ms) f
all_more m ms n ns z all zero = z
all_more m ms n ns z all (suc f) = all f

all_of : (ms : Cut) (n : ℕ) (ns : Cut) → n ≤ 0 → ((f : ℕ) → taken ns f ≤ taken [] f) → (f : ℕ) → taken (n ∷ ns) f ≤ taken [] f
all_of ms n ns z all zero = z
all_of ms n ns z all (suc f) = all f

-- nothing is left, or a log has a next line
pub all_or_left : (c sizes : Cut) → ((f : ℕ) → taken sizes f ≤ taken c f) ⊎ ((f : ℕ) × (taken c f < taken sizes f))
all_or_left c [] = inl (λ f. omega arith)
all_or_left [] (n ∷ ns) = elim (nat_lt_or 0 n) [
  | inl l ↦ inr (0, l)
  | inr z ↦ elim (all_or_left [] ns) [ inl all ↦ inl (all_of [] n ns z all) | inr left ↦ inr (suc left.0, left.1) ]
]
all_or_left (m ∷ ms) (n ∷ ns) = elim (nat_lt_or m n) [
  | inl l ↦ inr (0, l)
  | inr z ↦ elim (all_or_left ms ns) [ inl all ↦ inl (all_more m ms n ns z all) | inr left ↦ inr (suc left.0, left.1) ]
]

pub after_long : (c : Cut) (xs : List LineRef) → length (after c xs) ≡ length c
after_long c [] = refl
after_long c (x ∷ xs) = after_long (with_one c x.file) xs ∙ with_long c x.file

pub after_more : (c : Cut) (xs ys : List LineRef) → after c (xs ++ ys) ≡ after (after c xs) ys
after_more c [] ys = refl
after_more c (x ∷ xs) ys = after_more (with_one c x.file) xs ys
