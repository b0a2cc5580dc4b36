-- The walk along two lists is the plain function.
use Rattle.std.proofs.Common.{◌≡◌, ◌⊎◌, inl, inr, ℕ, zero, suc, ◌+◌, ◌<◌, ◌≤◌, ◌-◌, List, [], ◌∷◌, ◌++◌, length, take, drop, get_or, Bool, true, false, cond, ap, ◌∙◌, refl, arith, append_assoc, append-nil, add-one, drop-cons, length-drop}
use Rattle.std.proofs.lemmas.List.{take_all}
use Rattle.std.specs.declared.cmp.Ordering.TheVariants.{Less, Equal, Greater}
use Rattle.values_core.specs.Data.{Val}
use Rattle.values_core.specs.Order.{val_cmp}
use Rattle.values_operations.specs.Walk.{when, merged}
use Rattle.values_operations.specs.declared.sets.Keep.{Keep}

pub when_append : (b : Bool) (v : Val) (out rest : List Val) → (out ++ when b v []) ++ rest ≡ out ++ when b v rest
when_append true v out rest = append_assoc out (v ∷ []) rest
when_append false v out rest = ap (λ zs. zs ++ rest) (append-nil out)

pub first_drop : {X : Type 0} (xs : List X) (i : ℕ) (x : X) → i < length xs → x ≡ get_or xs i x → drop i xs ≡ x ∷ drop (i + 1) xs
first_drop xs i x h e = rw (add-one, drop-cons xs i x, ← e) refl

pub less_step : (k : Keep) (out xs ys : List Val) (i j : ℕ) (x y : Val) → i < length xs → j < length ys → x ≡ get_or xs i x → y ≡ get_or ys j y → val_cmp x y ≡ Less
    → (out ++ when k.left x []) ++ merged k (drop (i + 1) xs) (drop j ys) ≡ out ++ merged k (drop i xs) (drop j ys)
less_step k out xs ys i j x y h g ex ey e =
    when_append k.left x out (merged k (drop (i + 1) xs) (drop j ys)) ∙ rw (first_drop xs i x h ex, first_drop ys j y g ey, e) refl

pub equal_step : (k : Keep) (out xs ys : List Val) (i j : ℕ) (x y : Val) → i < length xs → j < length ys → x ≡ get_or xs i x → y ≡ get_or ys j y → val_cmp x y ≡ Equal
    → (out ++ when k.both x []) ++ merged k (drop (i + 1) xs) (drop (j + 1) ys) ≡ out ++ merged k (drop i xs) (drop j ys)
equal_step k out xs ys i j x y h g ex ey e =
    when_append k.both x out (merged k (drop (i + 1) xs) (drop (j + 1) ys)) ∙ rw (first_drop xs i x h ex, first_drop ys j y g ey, e) refl

pub greater_step : (k : Keep) (out xs ys : List Val) (i j : ℕ) (x y : Val) → i < length xs → j < length ys → x ≡ get_or xs i x → y ≡ get_or ys j y → val_cmp x y ≡ Greater
    → (out ++ when k.right y []) ++ merged k (drop i xs) (drop (j + 1) ys) ≡ out ++ merged k (drop i xs) (drop j ys)
greater_step k out xs ys i j x y h g ex ey e =
    when_append k.right y out (merged k (drop i xs) (drop (j + 1) ys)) ∙ rw (first_drop xs i x h ex, first_drop ys j y g ey, e) refl

alone : (k : Keep) (xs : List Val) → merged k xs [] ≡ cond k.left xs []
alone k [] = both k.right k.left
  where
    both : (a b : Bool) → ◌≡◌ {A = List Val} (cond a [] []) (cond b [] [])
    both true true = refl
    both true false = refl
    both false true = refl
    both false false = refl
alone k (x ∷ xs) = more k.left (merged k xs []) (alone k xs)
  where
    more : (b : Bool) (zs : List Val) → zs ≡ cond b xs [] → when b x zs ≡ cond b (x ∷ xs) []
    more true zs e = ap (λ ws. x ∷ ws) e
    more false zs e = e

nothing : (b : Bool) → ◌≡◌ {A = List Val} (cond b [] []) []
nothing true = refl
nothing false = refl

pub drop_all : {X : Type 0} (xs : List X) (i : ℕ) → length xs ≤ i → drop i xs ≡ []
drop_all [] zero h = refl
drop_all [] (suc i) h = refl
drop_all (x ∷ xs) zero h = absurd (omega arith)
drop_all (x ∷ xs) (suc i) h = drop_all xs i (omega arith)

-- one list is at its end
pub ended : (k : Keep) (out xs ys : List Val) (i j : ℕ) → (length xs ≤ i) ⊎ (length ys ≤ j)
    → (out ++ cond k.left (drop i xs) []) ++ cond k.right (drop j ys) [] ≡ out ++ merged k (drop i xs) (drop j ys)
ended k out xs ys i j (inl h) = rw (drop_all xs i h, nothing k.left, append-nil out) refl
ended k out xs ys i j (inr h) = rw (drop_all ys j h, nothing k.right, append-nil (out ++ cond k.left (drop i xs) []), alone k (drop i xs)) refl

pub tail_is : {X : Type 0} (xs : List X) (i : ℕ) → take (length xs - i) (drop i xs) ≡ drop i xs
tail_is xs i = take_all (length xs - i) (drop i xs) (omega (arith, length-drop i xs))
