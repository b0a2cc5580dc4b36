-- Whether a name is none of those that were given.
use Rattle.std.proofs.Common.{◌≡◌, ◌∙◌, sym, ap, refl, subst, List, [], ◌∷◌, length, ◌<◌, ◌≤◌, arith, drop-cons}
use Rattle.std.proofs.lemmas.Slice.Eq.{bytes_eq-Decides}
use Rattle.std.specs.Prelude.{Bool, ℕ, zero, suc, ◌+◌, true, false, drop, get_or}
use Rattle.std.specs.Str.{bytes_eq}
use Rattle.reading_trees.specs.declared.module.With.{With}
use Rattle.reading_trees.specs.Modules.{IsNoneOf}
use Rattle.reading_units.specs.Reads.{TellsNew}
use Rattle.reading_units.specs.Rests.{names_of}

cut_at : (xs : List With) (i : ℕ) (x : With) → i < length xs → x ≡ get_or xs i x → drop i xs ≡ x ∷ drop (i + 1) xs
cut_at xs i x lt e =
    let next : suc i ≡ i + 1 = omega arith in
    drop-cons xs i x lt ∙ ap (λ y. y ∷ drop (suc i) xs) (sym e) ∙ ap (λ k. x ∷ drop k xs) next

cut_end : (xs : List With) (i : ℕ) → length xs ≤ i → drop i xs ≡ []
cut_end [] zero le = refl
cut_end [] (suc i) le = refl
cut_end (x ∷ xs) zero le = absurd (omega (arith, le))
cut_end (x ∷ xs) (suc i) le = cut_end xs i (omega (arith, le))

-- it is none of all of them just where it is none of those from there on
pub record NewFrom (ws : List With) (i : ℕ) (n : List ℕ) : Type 0 where
  pub down : IsNoneOf (names_of ws) n → IsNoneOf (names_of (drop i ws)) n
  pub up : IsNoneOf (names_of (drop i ws)) n → IsNoneOf (names_of ws) n

pub new_start : (ws : List With) (n : List ℕ) → NewFrom ws 0 n
new_start ws n = record { down = λ h. h; up = λ h. h }

pub new_on : (ws : List With) (i : ℕ) (x : With) (n : List ℕ) → i < length ws → x ≡ get_or ws i x → NewFrom ws i n → bytes_eq x.name n ≡ false → NewFrom ws (i + 1) n
new_on ws i x n lt e f q =
    let cut : drop i ws ≡ x ∷ drop (i + 1) ws = cut_at ws i x lt e in
    record {
      down = λ h. (subst (λ v. IsNoneOf (names_of v) n) cut (f.down h)).1;
      up = λ h. f.up (subst (λ v. IsNoneOf (names_of v) n) (sym cut) ((λ same. let r : true ≡ false = sym ((bytes_eq-Decides x.name n).1 (sym same)) ∙ q in cc), h));
    }

pub new_not : (ws : List With) (i : ℕ) (x : With) (n : List ℕ) → i < length ws → x ≡ get_or ws i x → NewFrom ws i n → bytes_eq x.name n ≡ true → IsNoneOf (names_of ws) n → ⊥
new_not ws i x n lt e f q h =
    let cut : drop i ws ≡ x ∷ drop (i + 1) ws = cut_at ws i x lt e in
    (subst (λ v. IsNoneOf (names_of v) n) cut (f.down h)).0 (sym ((bytes_eq-Decides x.name n).0 q))

pub new_all : (ws : List With) (i : ℕ) (n : List ℕ) → length ws ≤ i → NewFrom ws i n → IsNoneOf (names_of ws) n
new_all ws i n le f = f.up (subst (λ v. IsNoneOf (names_of v) n) (sym (cut_end ws i le)) tt)

-- what it told, of the same list
pub told_old : (b : Bool) (xs ys : List With) (n : List ℕ) → TellsNew b (names_of xs) n → xs ≡ ys → b ≡ false → IsNoneOf (names_of ys) n → ⊥
told_old true xs ys n h e q new = let r : true ≡ false = q in cc
told_old false xs ys n h e q new = h (subst (λ v. IsNoneOf (names_of v) n) (sym e) new)

pub told_new : (b : Bool) (xs ys : List With) (n : List ℕ) → TellsNew b (names_of xs) n → xs ≡ ys → b ≡ true → IsNoneOf (names_of ys) n
told_new true xs ys n h e q = subst (λ v. IsNoneOf (names_of v) n) e h
told_new false xs ys n h e q = let r : false ≡ true = q in cc
