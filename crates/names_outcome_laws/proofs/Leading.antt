-- Whether uses lead from one definition to another is decided: the ways through the first definitions, one more at a time.
use Rattle.std.proofs.Common.{◌≡◌, ap, refl, subst, arith, inl, inr, ℕ, zero, suc, List, [], ◌∷◌, length, ◌<◌, ◌≤◌, ◌⊎◌}
use Rattle.std.specs.Prelude.{Contains}
use Rattle.std.specs.List.{slice_index_or}
use Rattle.base_use_order.specs.Uses.{IsWithin, Leads, Table, Uses, direct, through, used_by}
use Rattle.base_use_order.proofs.Lists.{cons_cases, head_in, none_in, same_or_not, tail_in}
use Rattle.names_outcome_laws.proofs.Deciding.{Decided, both_or, either_or, turned}

pub in_or_not : (xs : List ℕ) (j : ℕ) → Decided (Contains xs j)
in_or_not [] j = inr (λ h. none_in j h)
in_or_not (x ∷ xs) j = elim (same_or_not x j) [
  | inl e ↦ inl (subst (λ (v : ℕ). Contains (x ∷ xs) v) e (head_in x xs))
  | inr n ↦ elim (in_or_not xs j) [
    | inl h ↦ inl (tail_in x xs j h)
    | inr m ↦ inr (λ h. elim (cons_cases x xs j h) [ inl e ↦ n e | inr g ↦ m g ])
  ]
]

below_or_at : (a n : ℕ) → a < suc n → (a < n) ⊎ (a ≡ n)
below_or_at a n lt = grind arith

module _ (uses : Table) where
  -- through definitions of numbers below k alone
  abbrev Way : ℕ → ℕ → ℕ → Type 0
  Way zero i j = Uses uses i j
  Way (suc k) i j = Way k i j ⊎ (Way k i k × Way k k j)

  way_or_not : (k i j : ℕ) → Decided (Way k i j)
  way_or_not zero i j = in_or_not (used_by uses i) j
  way_or_not (suc k) i j = either_or (way_or_not k i j) (both_or (way_or_not k i k) (way_or_not k k j))

  joined : (k a i j : ℕ) → a < k → Way k i a → Way k a j → Way k i j
  joined zero a i j lt p q = absurd (omega (arith, lt))
  joined (suc k) a i j lt p q = elim (below_or_at a k lt) [
    | inl less ↦ elim p [
      | inl v ↦ elim q [ inl w ↦ inl (joined k a i j less v w) | inr w ↦ inr (joined k a i k less v w.0, w.1) ]
      | inr v ↦ elim q [ inl w ↦ inr (v.0, joined k a k j less v.1 w) | inr w ↦ inr (v.0, w.1) ]
    ]
    | inr same ↦ inr (to_it (subst (λ (x : ℕ). Way (suc k) i x) same p), from_it (subst (λ (x : ℕ). Way (suc k) x j) same q))
  ]
    where
      to_it : Way (suc k) i k → Way k i k
      to_it (inl v) = v
      to_it (inr v) = v.0

      from_it : Way (suc k) k j → Way k k j
      from_it (inl v) = v
      from_it (inr v) = v.1

  pub leads_on : (a b c : ℕ) → Leads uses a b → Leads uses b c → Leads uses a c
  leads_on _ _ c (direct a b u) r = through a b c u r
  leads_on _ _ c (through a b e u l) r = through a b c u (leads_on b e c l r)

  led : (k i j : ℕ) → Way k i j → Leads uses i j
  led zero i j w = direct i j w
  led (suc k) i j (inl w) = led k i j w
  led (suc k) i j (inr w) = leads_on i k j (led k i k w.0) (led k k j w.1)

  at_once : (k i j : ℕ) → Uses uses i j → Way k i j
  at_once zero i j u = u
  at_once (suc k) i j u = inl (at_once k i j u)

  way_of : IsWithin uses → (i j : ℕ) → Leads uses i j → Way (length uses) i j
  way_of within _ _ (direct a b u) = at_once (length uses) a b u
  way_of within _ _ (through a b c u l) = joined (length uses) b a c (within a b u) (at_once (length uses) a b u) (way_of within b c l)

  pub leads_or_not : IsWithin uses → (i j : ℕ) → Decided (Leads uses i j)
  leads_or_not within i j = turned (led (length uses) i j, way_of within i j) (way_or_not (length uses) i j)

-- a list of what a function gives at each number
abbrev pub listed_by : {A : Type 0} → (ℕ → A) → ℕ → List A
listed_by f zero = []
listed_by f (suc n) = f 0 ∷ listed_by (λ i. f (suc i)) n

pub length_listed : {A : Type 0} (f : ℕ → A) (n : ℕ) → length (listed_by f n) ≡ n
length_listed f zero = refl
length_listed f (suc n) = ap suc (length_listed (λ i. f (suc i)) n)

pub listed_at : {A : Type 0} (f : ℕ → A) (n i : ℕ) (d : A) → i < n → slice_index_or (listed_by f n) i d ≡ f i
listed_at f zero i d lt = absurd (omega (arith, lt))
listed_at f (suc n) zero d lt = refl
listed_at f (suc n) (suc i) d lt = listed_at (λ k. f (suc k)) n i d (omega (arith, lt))

pub listed_past : {A : Type 0} (f : ℕ → A) (n i : ℕ) (d : A) → n ≤ i → slice_index_or (listed_by f n) i d ≡ d
listed_past f zero zero d le = refl
listed_past f zero (suc i) d le = refl
listed_past f (suc n) zero d le = absurd (omega (arith, le))
listed_past f (suc n) (suc i) d le = listed_past (λ k. f (suc k)) n i d (omega (arith, le))
