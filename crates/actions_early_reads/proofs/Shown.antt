-- Sets of variables, variable by variable.
use Rattle.std.proofs.Common.{◌≡◌, ◌∙◌, ◌⊎◌, inl, inr, ap, sym, refl, subst, arith}
use Rattle.std.specs.Prelude.{◌&&◌, ◌||◌, ◌==◌, ◌<◌, ◌≤◌, ◌↔◌, ◌+◌, ℕ, zero, suc, Bool, true, false, nat_lt, Some, None}
use Rattle.std.specs.Int.{bit_at}
use Rattle.std.proofs.lemmas.Bool.{cases_lt, cases_eq, eq-eqb, eqb-true, ne_eqb, lt-ltb, le-ltb, and_right, or_cases}
use mathlib.Core.Path.{fun_ext}
use Rattle.states_core.specs.VarSets.{Has}
use Rattle.actions_meanings.specs.Reads.{VariableSet, in_none, united, with_variable}
use Rattle.actions_meanings.specs.Outcomes.{least}
use Rattle.actions_early_reads.specs.Sets.{shown}

pub same-tests : (a b : Bool) → (a ≡ true → b ≡ true) → (b ≡ true → a ≡ true) → a ≡ b
same-tests true true f g = refl
same-tests true false f g = sym (f refl)
same-tests false true f g = g refl
same-tests false false f g = refl

or-left : (a b : Bool) → a ≡ true → (a || b) ≡ true
or-left true b h = refl
or-left false b h = absurd (cc)

or-right : (a b : Bool) → b ≡ true → (a || b) ≡ true
or-right true b h = refl
or-right false b h = h

pub shown-past : (s x : ℕ) → 64 ≤ x → shown s x ≡ false
unfolding shown
shown-past s x h = ap (λ (t : Bool). t && (bit_at s x == 1)) (le-ltb x 64 h)

pub shown-below : (s x : ℕ) → x < 64 → shown s x ≡ (bit_at s x == 1)
unfolding shown
shown-below s x h = ap (λ (t : Bool). t && (bit_at s x == 1)) (lt-ltb x 64 h)

pub shown-none : (s : ℕ) → ((x : ℕ) → ¬ Has s x) → shown s ≡ in_none
unfolding shown
shown-none s h = fun_ext (λ x. and_right (nat_lt x 64) (bit_at s x == 1) (ne_eqb (bit_at s x) 1 (h x)))

pub shown-with : (s t v : ℕ) → v < 64 → ((x : ℕ) → x < 64 → Has t x ↔ ((x ≡ v) ⊎ Has s x)) → shown t ≡ with_variable (shown s) v
shown-with s t v below h = fun_ext (λ x. elim (cases_lt x 64) [
  | inl lt ↦ shown-below t x lt ∙ same-tests (bit_at t x == 1) (shown s x || (v == x)) (λ on. elim ((h x lt).0 (eqb-true (bit_at t x) 1 on)) [
    | inl q ↦ or-right (shown s x) (v == x) (eq-eqb v x (sym q))
    | inr old ↦ or-left (shown s x) (v == x) (shown-below s x lt ∙ eq-eqb (bit_at s x) 1 old)
  ]) (λ on. elim (or_cases (shown s x) (v == x) on) [
    | inl old ↦ eq-eqb (bit_at t x) 1 ((h x lt).1 (inr (eqb-true (bit_at s x) 1 (sym (shown-below s x lt) ∙ old))))
    | inr q ↦ eq-eqb (bit_at t x) 1 ((h x lt).1 (inl (sym (eqb-true v x q))))
  ])
  | inr past ↦ shown-past t x past ∙ sym (ap (λ (z : Bool). z || (v == x)) (shown-past s x past) ∙ ne_eqb v x (λ q. absurd (omega arith)))
])

pub shown-test : (s x : ℕ) (b : Bool) → x < 64 → (b ≡ true) ↔ Has s x → b ≡ shown s x
shown-test s x b lt h = same-tests b (bit_at s x == 1) (λ on. eq-eqb (bit_at s x) 1 (h.0 on)) (λ on. h.1 (eqb-true (bit_at s x) 1 on)) ∙ sym (shown-below s x lt)

-- the variables of either, up to one
abbrev pub IsUnitedBelow : ℕ → ℕ → ℕ → ℕ → Type 0
IsUnitedBelow all first second n = (x : ℕ) → shown all x ≡ (shown first x || (nat_lt x n && shown second x))

pub united-begins : (first second : ℕ) → IsUnitedBelow first first second 0
united-begins first second x = same-tests (shown first x) (shown first x || (nat_lt x 0 && shown second x)) (λ on. or-left (shown first x) (nat_lt x 0 && shown second x) on) (λ on. elim (or_cases (shown first x) (nat_lt x 0 && shown second x) on) [
  | inl h ↦ h
  | inr h ↦ absurd (never h)
])
  where
    never : (nat_lt x 0 && shown second x) ≡ true → ⊥
    never h = let q : nat_lt x 0 ≡ false = le-ltb x 0 (omega arith) in let r : (false && shown second x) ≡ true = subst (λ (z : Bool). (z && shown second x) ≡ true) q h in absurd (cc)

pub united-more : (all new first second n : ℕ) (wanted : Bool) → IsUnitedBelow all first second n → wanted ≡ shown second n → (wanted ≡ true → shown new ≡ with_variable (shown all) n) → (wanted ≡ false → new ≡ all) → IsUnitedBelow new first second (n + 1)
united-more all new first second n true h own added kept x =
    ap (λ (B : VariableSet). B x) (added refl) ∙ ap (λ (z : Bool). z || (n == x)) (h x) ∙ elim (cases_eq n x) [
      | inl q ↦ here q
      | inr other ↦ ap (λ (z : Bool). (shown first x || (nat_lt x n && shown second x)) || z) (ne_eqb n x other) ∙ or-false (shown first x || (nat_lt x n && shown second x)) ∙ ap (λ (z : Bool). shown first x || (z && shown second x)) (same-lt other)
    ]
  where
    or-false : (b : Bool) → (b || false) ≡ b
    or-false true = refl
    or-false false = refl

    same-lt : (n ≡ x → ⊥) → nat_lt x n ≡ nat_lt x (n + 1)
    same-lt other = elim (cases_lt x n) [
      | inl lt ↦ lt-ltb x n lt ∙ sym (lt-ltb x (n + 1) (omega arith))
      | inr ge ↦ elim (cases_lt x (n + 1)) [ inl lt ↦ absurd (other (omega arith)) | inr past ↦ le-ltb x n ge ∙ sym (le-ltb x (n + 1) past) ]
    ]

    here : n ≡ x → ((shown first x || (nat_lt x n && shown second x)) || (n == x)) ≡ (shown first x || (nat_lt x (n + 1) && shown second x))
    here q =
        let on : shown second x ≡ true = subst (λ (z : ℕ). shown second z ≡ true) q (sym own) in
        let lt : nat_lt x (n + 1) ≡ true = lt-ltb x (n + 1) (omega arith) in
        or-right (shown first x || (nat_lt x n && shown second x)) (n == x) (eq-eqb n x q) ∙ sym (or-right (shown first x) (nat_lt x (n + 1) && shown second x) (rw (lt, on) refl))
united-more all new first second n false h own added kept x =
    ap (λ (s : ℕ). shown s x) (kept refl) ∙ h x ∙ elim (cases_eq n x) [
      | inl q ↦ here q
      | inr other ↦ ap (λ (z : Bool). shown first x || (z && shown second x)) (same-lt other)
    ]
  where
    same-lt : (n ≡ x → ⊥) → nat_lt x n ≡ nat_lt x (n + 1)
    same-lt other = elim (cases_lt x n) [
      | inl lt ↦ lt-ltb x n lt ∙ sym (lt-ltb x (n + 1) (omega arith))
      | inr ge ↦ elim (cases_lt x (n + 1)) [ inl lt ↦ absurd (other (omega arith)) | inr past ↦ le-ltb x n ge ∙ sym (le-ltb x (n + 1) past) ]
    ]

    here : n ≡ x → (shown first x || (nat_lt x n && shown second x)) ≡ (shown first x || (nat_lt x (n + 1) && shown second x))
    here q =
        let off : shown second x ≡ false = subst (λ (z : ℕ). shown second z ≡ false) q (sym own) in
        ap (λ (z : Bool). shown first x || z) (and_right (nat_lt x n) (shown second x) off ∙ sym (and_right (nat_lt x (n + 1)) (shown second x) off))

pub united-ends : (all first second n : ℕ) → 64 ≤ n → IsUnitedBelow all first second n → shown all ≡ united (shown first) (shown second)
united-ends all first second n end h = fun_ext (λ x. h x ∙ elim (cases_lt x 64) [
  | inl lt ↦ ap (λ (z : Bool). shown first x || (z && shown second x)) (lt-ltb x n (omega arith))
  | inr past ↦ ap (λ (z : Bool). shown first x || z) (and_right (nat_lt x n) (shown second x) (shown-past second x past) ∙ sym (shown-past second x past))
])

-- THE LEAST VARIABLE

last-or-before : (v n : ℕ) → v < suc n → (v < n) ⊎ (v ≡ n)
last-or-before v n h = grind arith

pub least-first : (v n : ℕ) (P : VariableSet) → least v P ≡ None → P v ≡ true → v < n → least n P ≡ Some v
least-first v zero P h e l = absurd (omega arith)
least-first v (suc n) P h e l = elim (last-or-before v n l) [
  | inl c ↦ rw (least-first v n P h e c) refl
  | inr q ↦
      let none : least n P ≡ None = subst (λ (z : ℕ). least z P ≡ None) q h in
      let on : P n ≡ true = subst (λ (z : ℕ). P z ≡ true) q e in
      rw (none, on, q) refl
]

pub least-more : (v : ℕ) (P : VariableSet) → least v P ≡ None → P v ≡ false → least (v + 1) P ≡ None
least-more v P h e = let q : v + 1 ≡ suc v = omega arith in rw (q, h, e) refl

pub one-variable : (s n v : ℕ) (p : Bool) → shown s ≡ with_variable (shown n) v → shown n ≡ in_none → p ≡ true → shown s ≡ (λ x. p && (v == x))
one-variable s n v p with_one empty on =
    with_one ∙ ap (λ (B : VariableSet). with_variable B v) empty ∙ subst (λ (z : Bool). with_variable in_none v ≡ (λ x. z && (v == x))) (sym on) refl
