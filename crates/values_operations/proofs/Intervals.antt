-- Integers from one on, and the members of several sets.
use Rattle.std.proofs.Common.{◌≡◌, ◌↔◌, ◌⊎◌, inl, inr, ℕ, zero, suc, ◌+◌, ◌<◌, ℤ, pos, List, [], ◌∷◌, ◌++◌, length, take, get_or, ap, sym, ◌∙◌, subst, refl, arith, append_assoc, append-nil}
use Rattle.std.specs.Prelude.{◌+ℤ◌, ◌≤ℤ◌, ◌<ℤ◌}
use Rattle.std.specs.declared.cmp.Ordering.TheVariants.{Less}
use Rattle.std.specs.List.{Contains, AllByRecursion}
use Rattle.std.specs.List.Sorted.{IsStrictlySortedBy}
use Rattle.std.proofs.lemmas.Int.{ints}
use Rattle.std.proofs.lemmas.List.{take_more}
use Rattle.std.proofs.lemmas.List.Elements.{Contains-append_left, Contains-append_right, Contains-append_cases}
use Rattle.values_core.specs.Data.{Val, integer}
use Rattle.values_core.specs.Ascending.{cons_cases, head_in, tail_in, none_in}
use Rattle.values_core.specs.Order.{val_cmp}
use Rattle.values_core.specs.OrderLaws.{val_total}
use Rattle.values_core.specs.SetOperations.{AreTooMany, InInterval}
use Rattle.values_core.specs.Sets.{items_of, Member}
use Rattle.values_operations.specs.Listed.{ints_from, members_of_all}
use Rattle.values_operations.proofs.Listing.{ascending_different}

pub length-ints : (y : ℤ) (n : ℕ) → length (ints_from y n) ≡ n
length-ints y zero = refl
length-ints y (suc n) = ap suc (length-ints (y +ℤ pos 1) n)

pub in_ints : (y : ℤ) (n : ℕ) (v : Val) → Contains (ints_from y n) v → (z : ℤ) × (v ≡ integer z) × (y ≤ℤ z) × (z <ℤ (y +ℤ pos n))
in_ints y zero v h = absurd (none_in v h)
in_ints y (suc n) v h = elim (cons_cases (integer y) (ints_from (y +ℤ pos 1) n) v h) [
  | inl e ↦ (y, sym e, omega (arith, ints), omega (arith, ints))
  | inr g ↦
      let w = in_ints (y +ℤ pos 1) n v g in
      let low : (y +ℤ pos 1) ≤ℤ w.0 = w.2 in
      let high : w.0 <ℤ ((y +ℤ pos 1) +ℤ pos n) = w.3 in
      (w.0, w.1, omega (arith, ints), omega (arith, ints))
]

pub ints_in : (y : ℤ) (n : ℕ) (z : ℤ) → y ≤ℤ z → z <ℤ (y +ℤ pos n) → Contains (ints_from y n) (integer z)
ints_in y zero z l h = absurd (omega (arith, ints))
ints_in y (suc n) z l h = elim (either y z l) [
  | inl e ↦ subst (λ (w : ℤ). Contains (integer y ∷ ints_from (y +ℤ pos 1) n) (integer w)) e (head_in (integer y) (ints_from (y +ℤ pos 1) n))
  | inr g ↦ tail_in (integer y) (ints_from (y +ℤ pos 1) n) (integer z) (ints_in (y +ℤ pos 1) n z (omega (arith, ints)) (omega (arith, ints)))
]
  where
    either : (a b : ℤ) → a ≤ℤ b → (a ≡ b) ⊎ (a <ℤ b)
    either a b h = grind (arith, ints)

less : (y z : ℤ) → y <ℤ z → val_cmp (integer y) (integer z) ≡ Less
unfolding val_cmp
less y z h = grind (arith, ints)

above : (y w : ℤ) (n : ℕ) → y <ℤ w → AllByRecursion (λ v. val_cmp (integer y) v ≡ Less) (ints_from w n)
above y w zero h = tt
above y w (suc n) h = (less y w h, above y (w +ℤ pos 1) n (omega (arith, ints)))

pub ascending_ints : (y : ℤ) (n : ℕ) → IsStrictlySortedBy val_cmp (ints_from y n)
unfolding IsStrictlySortedBy
ascending_ints y zero = tt
ascending_ints y (suc n) = (above y (y +ℤ pos 1) n (omega (arith, ints)), ascending_ints (y +ℤ pos 1) n)

pub ints_push : (y : ℤ) (n : ℕ) → ints_from y (n + 1) ≡ ints_from y n ++ integer (y +ℤ pos n) ∷ []
ints_push y n = step (n + 1) y n (omega arith)
  where
    step : (m : ℕ) (y : ℤ) (n : ℕ) → m ≡ suc n → ints_from y m ≡ ints_from y n ++ integer (y +ℤ pos n) ∷ []
    step zero y n e = absurd (omega arith)
    step (suc m) y zero e = let f : m ≡ 0 = omega arith in let g : y ≡ y +ℤ pos 0 = omega (arith, ints) in rw f (ap (λ z. integer z ∷ []) g)
    step (suc m) y (suc n) e =
        let f : m ≡ suc n = omega arith in
        let g : (y +ℤ pos 1) +ℤ pos n ≡ y +ℤ pos (suc n) = omega (arith, ints) in
        ap (λ vs. integer y ∷ vs) (step m (y +ℤ pos 1) n f ∙ ap (λ z. ints_from (y +ℤ pos 1) n ++ integer z ∷ []) g)

-- the integers from y on are those of the interval
pub interval_is : (y z : ℤ) (n : ℕ) → y +ℤ pos n ≡ z +ℤ pos 1 → (v : Val) → Contains (ints_from y n) v ↔ InInterval y z v
interval_is y z n e v = (
  λ h. let w = in_ints y n v h in let low : y ≤ℤ w.0 = w.2 in let high : w.0 <ℤ (y +ℤ pos n) = w.3 in (w.0, w.1, low, omega (arith, ints)),
  λ h. let low : y ≤ℤ h.0 = h.2 in let high : h.0 ≤ℤ z = h.3 in subst (λ (w : Val). Contains (ints_from y n) w) (sym h.1) (ints_in y n h.0 low (omega (arith, ints))),
)

pub nothing_between : (y z : ℤ) → z <ℤ y → (v : Val) → Contains {X = Val} [] v ↔ InInterval y z v
nothing_between y z l v = (λ h. absurd (none_in v h), λ h. let low : y ≤ℤ h.0 = h.2 in let high : h.0 ≤ℤ z = h.3 in absurd (omega (arith, ints)))

pub too_many_between : (y z : ℤ) → (y +ℤ pos 100000) ≤ℤ z → AreTooMany (InInterval y z)
too_many_between y z h = record {
  some = ints_from y 100001;
  different = ascending_different val_cmp val_total (ints_from y 100001) (ascending_ints y 100001);
  each = λ v g. let w = in_ints y 100001 v g in let low : y ≤ℤ w.0 = w.2 in let high : w.0 <ℤ (y +ℤ pos 100001) = w.3 in (w.0, w.1, low, omega (arith, ints));
  many = omega (arith, length-ints y 100001);
}

all_push : (ss : List Val) (s : Val) → members_of_all (ss ++ s ∷ []) ≡ members_of_all ss ++ items_of s
all_push [] s = append-nil (items_of s)
all_push (t ∷ ts) s = ap (λ vs. items_of t ++ vs) (all_push ts s) ∙ sym (append_assoc (items_of t) (members_of_all ts) (items_of s))

pub all_more : (ss : List Val) (i : ℕ) (s : Val) → i < length ss → s ≡ get_or ss i s → members_of_all (take i ss) ++ items_of s ≡ members_of_all (take (i + 1) ss)
all_more ss i s h e = rw (take_more ss i s, ← e) (sym (all_push (take i ss) s))

pub in_all : (ss : List Val) (v : Val) → Contains (members_of_all ss) v ↔ ((s : Val) × Contains ss s × Member v s)
in_all [] v = (λ h. absurd (none_in v h), λ h. absurd (none_in h.0 h.1))
in_all (t ∷ ts) v = (
  λ h. elim (Contains-append_cases (items_of t) (members_of_all ts) v h) [
    | inl a ↦ (t, head_in t ts, a)
    | inr a ↦ let w = (in_all ts v).0 a in (w.0, tail_in t ts w.0 w.1, w.2)
  ],
  λ h. elim (cons_cases t ts h.0 h.1) [
    | inl e ↦ Contains-append_left (items_of t) (members_of_all ts) v (subst (λ (s : Val). Contains (items_of s) v) (sym e) h.2)
    | inr g ↦ Contains-append_right (items_of t) (members_of_all ts) v ((in_all ts v).1 (h.0, g, h.2))
  ],
)
