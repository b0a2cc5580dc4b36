-- What is said of the bodies of a table by what stands in them and by the same of other bodies is decided.
use Rattle.std.proofs.Common.{◌≡◌, ◌∙◌, sym, ap, refl, subst, arith, inl, inr, ℕ, zero, suc, List, [], ◌∷◌, ◌++◌, length, ◌<◌}
use Rattle.std.specs.Prelude.{Bool, Option, Some, None, Contains, IsTrue, slice_get}
use Rattle.std.proofs.lemmas.List.Elements.{Contains-append_cases, Contains-append_left, Contains-append_right}
use Rattle.std.proofs.lemmas.Option.{slice_get_within}
use Rattle.names_term_parts.proofs.Contained.{contains_cons, contains_head, contains_nothing, contains_tail}
use Rattle.names_terms.specs.declared.operator.Operator.{Operator}
use Rattle.names_terms.specs.Terms.{Term}
use Rattle.base_use_order.proofs.Lists.{within_or_past}
use Rattle.names_outcome_laws.proofs.Deciding.{Decided}
use Rattle.names_outcome_laws.proofs.Saturating.{Pair, decided, true_or_not}
use Rattle.names_outcome_laws.proofs.Walking.{In, in_map, in_or_not}

-- ---- the pairs of the first numbers

pub row_pairs : ℕ → ℕ → List Pair
row_pairs k zero = []
row_pairs k (suc w) = (k, w) ∷ row_pairs k w

pub all_pairs : ℕ → ℕ → List Pair
all_pairs zero w = []
all_pairs (suc n) w = row_pairs n w ++ all_pairs n w

in_row : (k w t : ℕ) → t < w → Contains (row_pairs k w) (k, t)
unfolding row_pairs
in_row k zero t lt = absurd (omega (arith, lt))
in_row k (suc w) t lt = elim (within_or_past t w) [
  | inl less ↦ contains_tail (k, w) (row_pairs k w) (k, t) (in_row k w t less)
  | inr le ↦ (let same : w ≡ t = omega (arith, lt, le) in subst (λ (x : ℕ). Contains ((k, w) ∷ row_pairs k w) (k, x)) same (contains_head (k, w) (row_pairs k w)))
]

pub in_pairs : (n w k t : ℕ) → k < n → t < w → Contains (all_pairs n w) (k, t)
unfolding all_pairs
in_pairs zero w k t lt less = absurd (omega (arith, lt))
in_pairs (suc n) w k t lt less = elim (within_or_past k n) [
  | inl before ↦ Contains-append_right (row_pairs n w) (all_pairs n w) (k, t) (in_pairs n w k t before less)
  | inr le ↦ (let same : n ≡ k = omega (arith, lt, le) in Contains-append_left (row_pairs n w) (all_pairs n w) (k, t) (subst (λ (x : ℕ). Contains (row_pairs n w) (x, t)) same (in_row n w t less)))
]

row_in : (k w : ℕ) (b : Pair) → Contains (row_pairs k w) b → (b.0 ≡ k) × (b.1 < w)
unfolding row_pairs
row_in k zero b c = absurd (contains_nothing b c)
row_in k (suc w) b c = elim (contains_cons (k, w) (row_pairs k w) b c) [
  | inl e ↦ (let same : w ≡ b.1 = ap (λ (x : Pair). x.1) e in (sym (ap (λ (x : Pair). x.0) e), omega (arith, same)))
  | inr d ↦ (let r : (b.0 ≡ k) × (b.1 < w) = row_in k w b d in (r.0, omega (arith, r.1)))
]

pub pairs_in : (n w : ℕ) (b : Pair) → Contains (all_pairs n w) b → (b.0 < n) × (b.1 < w)
unfolding all_pairs
pairs_in zero w b c = absurd (contains_nothing b c)
pairs_in (suc n) w b c = elim (Contains-append_cases (row_pairs n w) (all_pairs n w) b c) [
  | inl d ↦ (let r : (b.0 ≡ n) × (b.1 < w) = row_in n w b d in (omega (arith, r.0), r.1))
  | inr d ↦ (let r : (b.0 < n) × (b.1 < w) = pairs_in n w b d in (omega (arith, r.0), r.1))
]

-- ---- rows

pub one_item : {A : Type 0} (a b : A) → Some a ≡ Some b → a ≡ b
one_item a b e = cc

-- an item of a list of which something is so, or none at that place
pub item_with : {A : Type 0} (xs : List A) (k : ℕ) (P : A → Type 0) → ((x : A) → Decided (P x)) → Decided ((x : A) × (slice_get xs k ≡ Some x) × P x)
item_with {A = A} xs k P d = by_item (slice_get xs k) refl
  where
    by_test : (x : A) → slice_get xs k ≡ Some x → Decided (P x) → Decided ((y : A) × (slice_get xs k ≡ Some y) × P y)
    by_test x e (inl h) = inl (x, e, h)
    by_test x e (inr n) = inr (λ w. n (subst P (one_item w.0 x (sym w.1 ∙ e)) w.2))

    by_item : (r : Option A) → slice_get xs k ≡ r → Decided ((y : A) × (slice_get xs k ≡ Some y) × P y)
    by_item None e = inr (λ w. (let bad : None ≡ Some w.0 = sym e ∙ w.1 in cc))
    by_item (Some x) e = by_test x e (d x)

module _ (ops : List Operator) (Rel : Term → ℕ → Type 0) (Here : (Pair → Type 0) → ℕ → Term → Type 0) where
  -- so it is of the body of that row
  abbrev pub OfRow : Pair → Type 0
  OfRow a = (o : Operator) × (slice_get ops a.0 ≡ Some o) × Rel o.body a.1

  -- so it is where the rows have what is given
  abbrev pub By : (Pair → Type 0) → Pair → Type 0
  By S a = (o : Operator) × (slice_get ops a.0 ≡ Some o) × In (Here S a.1) o.body

  module _ (w : ℕ) (mono : (S Q : Pair → Type 0) (s : ℕ) → s < w → ((b : Pair) → b.0 < length ops → b.1 < w → S b → Q b) → (e : Term) → Here S s e → Here Q s e) (here_or_not : (S : Pair → Type 0) → ((b : Pair) → Decided (S b)) → (s : ℕ) (e : Term) → Decided (Here S s e)) (sound : (s : ℕ) (e : Term) → In (Here OfRow s) e → Rel e s) (complete : (S : Pair → Type 0) → ((b : Pair) → b.0 < length ops → b.1 < w → By S b → S b) → (k : ℕ) (o : Operator) (s : ℕ) → slice_get ops k ≡ Some o → s < w → Rel o.body s → In (Here S s) o.body) where
    abbrev universe : List Pair
    universe = all_pairs (length ops) w

    pub row_or_not : (a : Pair) → a.1 < w → Decided (OfRow a)
    row_or_not a lt = elim (within_or_past a.0 (length ops)) [
      | inl less ↦ decided universe OfRow By fold weaker decide least a (in_pairs (length ops) w a.0 a.1 less lt)
      | inr le ↦ inr (λ r. (let less : a.0 < length ops = slice_get_within ops a.0 r.0 r.1 in omega (arith, le, less)))
    ]
      where
        fold : (b : Pair) → Contains universe b → By OfRow b → OfRow b
        fold b c h = (h.0, h.1, sound b.1 h.0.body h.2)

        weaker : (S Q : Pair → Type 0) → ((b : Pair) → Contains universe b → S b → Q b) → (b : Pair) → Contains universe b → By S b → By Q b
        weaker S Q f b c h = (
          h.0,
          h.1,
          in_map (Here S b.1) (Here Q b.1) (λ e x. mono S Q b.1 (pairs_in (length ops) w b c).1 (λ d p q. f d (in_pairs (length ops) w d.0 d.1 p q)) e x) h.0.body h.2,
        )

        decide : (S : Pair → Bool) (b : Pair) → Contains universe b → Decided (By (λ d. IsTrue (S d)) b)
        decide S b c = item_with ops b.0 (λ o. In (Here (λ d. IsTrue (S d)) b.1) o.body) (λ o. in_or_not (Here (λ d. IsTrue (S d)) b.1) (here_or_not (λ d. IsTrue (S d)) (λ d. true_or_not (S d)) b.1) o.body)

        least : (S : Pair → Type 0) → ((b : Pair) → Contains universe b → By S b → S b) → (b : Pair) → Contains universe b → OfRow b → S b
        least S closed b c h =
            closed b c (h.0, h.1, complete S (λ d p q x. closed d (in_pairs (length ops) w d.0 d.1 p q) x) b.0 h.0 b.1 h.1 (pairs_in (length ops) w b c).1 h.2)
