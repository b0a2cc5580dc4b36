-- Two lists, item by item.
use Rattle.std.proofs.Common.{◌≡◌, ap₂, refl, subst, List, [], ◌∷◌, ◌++◌, inl, inr}
use Rattle.std.specs.Prelude.{ℕ, zero, suc, Some, Contains, slice_get}
use Rattle.std.specs.List.{AllZip}
use Rattle.names_term_parts.proofs.Contained.{contains_cons, contains_head, contains_tail, contains_nothing}

pub some_same : {A : Type 0} {a b : A} → Some a ≡ Some b → a ≡ b
some_same e = cc

pub joined_lists : {A : Type 0} (xs ys us vs : List A) → xs ≡ ys → us ≡ vs → xs ++ us ≡ ys ++ vs
joined_lists xs ys us vs p q = ap₂ (λ a b. a ++ b) p q

module _ {A B : Type 0} (R : A → B → Type 0) where
  pub zip_append : (xs : List A) (ys : List B) (us : List A) (vs : List B) → AllZip R xs ys → AllZip R us vs → AllZip R (xs ++ us) (ys ++ vs)
  zip_append [] [] us vs z w = w
  zip_append [] (y ∷ ys) us vs z w = absurd z
  zip_append (x ∷ xs) [] us vs z w = absurd z
  zip_append (x ∷ xs) (y ∷ ys) us vs z w = (z.0, zip_append xs ys us vs z.1 w)

  pub zip_left : (xs : List A) (ys : List B) (x : A) → AllZip R xs ys → Contains xs x → (y : B) × Contains ys y × R x y
  zip_left [] ys x z c = absurd (contains_nothing x c)
  zip_left (a ∷ xs) [] x z c = absurd z
  zip_left (a ∷ xs) (b ∷ ys) x z c = elim (contains_cons a xs x c) [
    | inl q ↦ (b, contains_head b ys, subst (λ (t : A). R t b) q z.0)
    | inr k ↦ let r : (y : B) × Contains ys y × R x y = zip_left xs ys x z.1 k in (r.0, contains_tail b ys r.0 r.1, r.2)
  ]

  pub zip_right : (xs : List A) (ys : List B) (y : B) → AllZip R xs ys → Contains ys y → (x : A) × Contains xs x × R x y
  zip_right xs [] y z c = absurd (contains_nothing y c)
  zip_right [] (b ∷ ys) y z c = absurd z
  zip_right (a ∷ xs) (b ∷ ys) y z c = elim (contains_cons b ys y c) [
    | inl q ↦ (a, contains_head a xs, subst (λ (t : B). R a t) q z.0)
    | inr k ↦ let r : (x : A) × Contains xs x × R x y = zip_right xs ys y z.1 k in (r.0, contains_tail a xs r.0 r.1, r.2)
  ]

  pub zip_at : (xs : List A) (ys : List B) (k : ℕ) (x : A) → AllZip R xs ys → slice_get xs k ≡ Some x → (y : B) × (slice_get ys k ≡ Some y) × R x y
  zip_at [] ys k x z q = absurd (cc)
  zip_at (a ∷ xs) [] k x z q = absurd z
  zip_at (a ∷ xs) (b ∷ ys) zero x z q = (b, refl, subst (λ (t : A). R t b) (some_same q) z.0)
  zip_at (a ∷ xs) (b ∷ ys) (suc k) x z q = zip_at xs ys k x z.1 q

  pub zip_one : (x : A) (ys : List B) → AllZip R (x ∷ []) ys → (y : B) × (ys ≡ y ∷ []) × R x y
  zip_one x [] z = absurd z
  zip_one x (y ∷ []) z = (y, refl, z.0)
  zip_one x (y ∷ t ∷ ys) z = absurd z.1

  pub zip_none : (xs : List A) → AllZip R xs [] → xs ≡ []
  zip_none [] z = refl
  zip_none (x ∷ xs) z = absurd z
