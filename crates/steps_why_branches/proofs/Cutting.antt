-- One more than asked for tells whether there are more.
use Rattle.std.proofs.Common.{◌≡◌, inl, inr, subst, arith, ℕ, zero, suc, ◌≤◌, List, [], ◌∷◌, ◌++◌, length}
use Rattle.std.specs.Prelude.{Contains}
use Rattle.steps_why_branches.specs.Traces.{Earlier, Trace}
use Rattle.steps_why_branches.specs.Firsts.{Ascends, Firsts}
use Rattle.steps_why_branches.proofs.Order.{not_itself}
use Rattle.steps_found_states.proofs.Lists.{in_cases, in_left, in_right, one_in}
use Rattle.values_core.specs.Ascending.{head_in}

ascends_left : (xs ys : List Trace) → Ascends (xs ++ ys) → Ascends xs
ascends_left [] ys a = tt
ascends_left (x ∷ xs) ys a = (λ y m. a.0 y (in_left xs ys y m), ascends_left xs ys a.1)

pub earlier_ones : (xs ys : List Trace) (y : Trace) → Ascends (xs ++ y ∷ ys) → (x : Trace) → Contains xs x → Earlier x y
earlier_ones [] ys y a x m = absurd (omega (arith, m.1))
earlier_ones (z ∷ xs) ys y a x (zero, l, e) = subst (λ (w : Trace). Earlier w y) e (a.0 y (in_right xs (y ∷ ys) y (head_in y ys)))
earlier_ones (z ∷ xs) ys y a x (suc k, l, e) = earlier_ones xs ys y a.1 x (k, omega (arith, l), e)

-- the last is let go, and shows that there are more
pub cut_more : (m : ℕ) (P : Trace → Type 0) (ys : List Trace) (x : Trace) → length ys ≡ m → Firsts (suc m) P (ys ++ x ∷ []) → Firsts m P ys × P x × ((y : Trace) → Contains ys y → Earlier y x)
cut_more m P ys x l a = (
  record {
    ordered = ascends_left ys (x ∷ []) a.ordered;
    few = omega (arith, l);
    are = λ y n. a.are y (in_left ys (x ∷ []) y n);
    rest = λ y p. elim (a.rest y p) [
      | inl n ↦ elim (in_cases ys (x ∷ []) y n) [
        | inl o ↦ inl o
        | inr o ↦ inr (omega (arith, l), λ z i. subst (λ (w : Trace). Earlier z w) (one_in x y o) (earlier_ones ys [] x a.ordered z i))
      ]
      | inr n ↦ inr (omega (arith, l), λ z i. n.1 z (in_left ys (x ∷ []) z i))
    ];
  },
  a.are x (in_right ys (x ∷ []) x (head_in x [])),
  earlier_ones ys [] x a.ordered,
)

-- no more than asked for are all
pub cut_none : (m : ℕ) (P : Trace → Type 0) (xs : List Trace) → length xs ≤ m → Firsts (suc m) P xs → Firsts m P xs × ((x : Trace) → P x → ((y : Trace) → Contains xs y → Earlier y x) → ⊥)
cut_none m P xs l a = (
  record {
    ordered = a.ordered;
    few = l;
    are = a.are;
    rest = λ x p. elim (a.rest x p) [
      | inl n ↦ inl n
      | inr n ↦ absurd (let full : suc m ≤ length xs = n.0 in omega (arith, l, full))
    ];
  },
  λ x p e. elim (a.rest x p) [
    | inl n ↦ not_itself x.choices (e x n)
    | inr n ↦ (let full : suc m ≤ length xs = n.0 in omega (arith, l, full))
  ],
)
