-- A stack of which nothing is left.
use Rattle.std.proofs.Common.{◌≡◌, ◌∙◌, ap, List, [], ◌∷◌, ◌++◌, arith, length, ◌<◌, refl, take}
use Rattle.std.specs.Prelude.{ℕ, ◌-◌, map}

pub nothing_left : {A B : Type 0} (f : A → B) (xs : List A) → (0 < length xs → ⊥) → map f xs ≡ []
nothing_left f [] h = refl
nothing_left f (x ∷ xs) h = absurd (h (omega arith))

none_taken : {A : Type 0} (xs : List A) → take 0 xs ≡ []
none_taken [] = refl
none_taken (x ∷ xs) = refl

-- a stack of which nothing was taken
pub popped_nothing : {A : Type 0} (xs ys : List A) (n : ℕ) → xs ≡ ys ++ [] → ys ≡ take (n - 1) xs → n ≡ 0 → xs ≡ []
popped_nothing xs ys n whole rest none =
    let z : n - 1 ≡ 0 = omega arith in
    whole ∙ ap (λ zs. zs ++ []) (rest ∙ ap (λ k. take k xs) z ∙ none_taken xs)
