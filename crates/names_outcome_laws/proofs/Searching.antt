-- The first of what is found, number by number.
use Rattle.std.proofs.Common.{◌≡◌, subst, arith, inl, inr, ℕ, zero, suc, ◌<◌, ◌⊎◌}
use Rattle.base_use_order.proofs.Lists.{within_or_past}

-- there is none at a number, or there is one
abbrev pub AtMostFound : {A : Type 0} → (A → Type 0) → Type 0
AtMostFound {A} P = ((a : A) → ¬ P a) ⊎ ((a : A) × P a)

-- there is none below a number, or a first one
pub record First {A : Type 0} (P : ℕ → A → Type 0) : Type 0 where
  pub index : ℕ
  pub what : A
  pub is : P index what
  pub none_before : (j : ℕ) (b : A) → j < index → ¬ P j b

pub search_first : {A : Type 0} (P : ℕ → A → Type 0) → ((k : ℕ) → AtMostFound (P k)) → (n : ℕ) → ((j : ℕ) (a : A) → j < n → ¬ P j a) ⊎ First P
search_first P one zero = inl (λ j a lt h. absurd (omega (arith, lt)))
search_first P one (suc n) = elim (search_first P one n) [
  | inl none ↦ elim (one n) [
    | inl nothing ↦ inl (λ j a lt. elim (within_or_past j n) [ inl less ↦ none j a less | inr le ↦ (let same : j ≡ n = omega (arith, lt, le) in λ h. nothing a (subst (λ (x : ℕ). P x a) same h)) ])
    | inr found ↦ inr (record { index = n; what = found.0; is = found.1; none_before = none })
  ]
  | inr first ↦ inr first
]
