-- What stands where in lists.
use Rattle.std.proofs.Common.{◌≡◌, ◌≤◌, ◌<◌, ℕ, zero, suc, List, [], ◌∷◌, ◌++◌, length, arith, refl, ap, Some, take}
use Rattle.std.specs.List.{slice_get}
use Rattle.std.proofs.lemmas.Option.{slice_get_within, get_or_from_slice_get}

pub get_left : {A : Type 0} (xs ys : List A) (i : ℕ) → i < length xs → slice_get (xs ++ ys) i ≡ slice_get xs i
get_left [] ys i lt = absurd (omega arith)
get_left (x ∷ xs) ys zero lt = refl
get_left (x ∷ xs) ys (suc i) lt = get_left xs ys i (omega arith)

pub get_end : {A : Type 0} (xs : List A) (x : A) → slice_get (xs ++ x ∷ []) (length xs) ≡ Some x
get_end [] x = refl
get_end (y ∷ xs) x = get_end xs x

pub take_end : {A : Type 0} (xs ys : List A) → take (length xs) (xs ++ ys) ≡ xs
take_end [] ys = refl
take_end (x ∷ xs) ys = ap (λ zs. x ∷ zs) (take_end xs ys)

pub take_past : {A : Type 0} (xs : List A) (i : ℕ) → length xs ≤ i → take i xs ≡ xs
take_past [] zero le = refl
take_past [] (suc i) le = refl
take_past (x ∷ xs) zero le = absurd (omega arith)
take_past (x ∷ xs) (suc i) le = ap (λ zs. x ∷ zs) (take_past xs i (omega arith))

pub take_more : {A : Type 0} (w : List A) (i : ℕ) (x : A) → slice_get w i ≡ Some x → take (suc i) w ≡ take i w ++ x ∷ []
take_more [] i x e = (let h = slice_get_within [] i x e in absurd (omega arith))
take_more (y ∷ w) zero x e = ap (λ z. z ∷ []) (get_or_from_slice_get (y ∷ w) 0 x y e)
take_more (y ∷ w) (suc i) x e = ap (λ zs. y ∷ zs) (take_more w i x e)
