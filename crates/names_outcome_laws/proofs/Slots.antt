-- Whether a slot stands in a term, and whether it stands there under a prime, is decided.
use Rattle.std.proofs.Common.{◌≡◌, ◌∙◌, sym, refl, subst, arith, inl, inr, ℕ, zero, suc, ◌+◌, List, [], ◌∷◌, length, length-append, ◌<◌, ◌≤◌, ◌⊎◌}
use Rattle.std.specs.Prelude.{Bool, true, false, Some, Contains, slice_get}
use Rattle.std.proofs.lemmas.Option.{slice_get_within}
use Rattle.names_terms.specs.declared.operator.Operator.{Operator}
use Rattle.names_terms.specs.Terms.{Term, Placed, Meaning, Slot, Use, Scoped, Terms, NoTerms, MoreTerms}
use Rattle.names_term_parts.specs.Parts.{Part, listed, parts}
use Rattle.names_term_parts.specs.Slots.{IsPrimed, Occurs, in_argument, itself, occurs_in_let, occurs_in_part, occurs_where_used, primed_in_let, primed_in_part, primed_where_used, under}
use Rattle.names_term_parts.specs.Weights.{in_terms, weight}
use Rattle.base_use_order.proofs.Lists.{same_or_not, within_or_past}
use Rattle.names_outcome_laws.proofs.Deciding.{Decided, both_or, either_or, turned}
use Rattle.names_outcome_laws.proofs.RowRelations.{By, OfRow, item_with, one_item, row_or_not}
use Rattle.names_outcome_laws.proofs.Saturating.{Pair, any_or_none}
use Rattle.names_outcome_laws.proofs.Walking.{In, deeper, here, in_or_not, part_less}

pub less_or_not : (a b : ℕ) → Decided (a < b)
less_or_not a b = elim (within_or_past a b) [ inl lt ↦ inl lt | inr le ↦ inr (λ lt. omega (arith, le, lt)) ]

pub true_is : (b : Bool) → Decided (b ≡ true)
true_is true = inl refl
true_is false = inr (λ e. cc)

module _ (ops : List Operator) where
  -- ---- a slot that stands in a term

  -- the definition of that number has the slot around it, and in it
  abbrev Around : (Pair → Type 0) → ℕ → ℕ → Type 0
  Around S i k = (o : Operator) × (slice_get ops k ≡ Some o) × ((i < o.outer) × S (k, i))

  abbrev slot_here : (Pair → Type 0) → ℕ → Meaning → Type 0
  slot_here S i (Slot j) = j ≡ i
  slot_here S i (Scoped ks e) = (k : ℕ) × Contains ks k × Around S i k
  slot_here S i (Use k ts) = Around S i k
  slot_here S i m = ⊥

  abbrev SlotHere : (Pair → Type 0) → ℕ → Term → Type 0
  SlotHere S i (Placed at l m) = slot_here S i m

  abbrev Standing : Pair → Type 0
  Standing = OfRow ops (Occurs ops) SlotHere

  around_or_not : (S : Pair → Type 0) → ((b : Pair) → Decided (S b)) → (i k : ℕ) → Decided (Around S i k)
  around_or_not S d i k = item_with ops k (λ o. (i < o.outer) × S (k, i)) (λ o. both_or (less_or_not i o.outer) (d (k, i)))

  slot_or_not : (S : Pair → Type 0) → ((b : Pair) → Decided (S b)) → (i : ℕ) (e : Term) → Decided (SlotHere S i e)
  slot_or_not S d i (Placed at l (Slot j)) = same_or_not j i
  slot_or_not S d i (Placed at l (Scoped ks e)) = any_or_none (Around S i) ks (λ k c. around_or_not S d i k)
  slot_or_not S d i (Placed at l (Use k ts)) = around_or_not S d i k
  slot_or_not S d i (Placed at l m) = inr (λ h. h)

  around_map : (S Q : Pair → Type 0) (w i k : ℕ) → i < w → ((b : Pair) → b.0 < length ops → b.1 < w → S b → Q b) → Around S i k → Around Q i k
  around_map S Q w i k lt f h = (h.0, h.1, (h.2.0, f (k, i) (slice_get_within ops k h.0 h.1) lt h.2.1))

  slot_map : (w : ℕ) (S Q : Pair → Type 0) (i : ℕ) → i < w → ((b : Pair) → b.0 < length ops → b.1 < w → S b → Q b) → (e : Term) → SlotHere S i e → SlotHere Q i e
  slot_map w S Q i lt f (Placed at l (Slot j)) h = h
  slot_map w S Q i lt f (Placed at l (Scoped ks e)) h = (h.0, h.1, around_map S Q w i h.0 lt f h.2)
  slot_map w S Q i lt f (Placed at l (Use k ts)) h = around_map S Q w i k lt f h
  slot_map w S Q i lt f (Placed at l m) h = absurd h

  slot_itself : (i : ℕ) (e : Term) → SlotHere Standing i e → Occurs ops e i
  slot_itself i (Placed at l (Slot j)) h = subst (λ (x : ℕ). Occurs ops (Placed at l (Slot j)) x) h (itself at l j)
  slot_itself i (Placed at l (Scoped ks e)) h =
      let r : Standing (h.0, i) = h.2.2.1 in
      occurs_in_let at l ks e h.0 r.0 i h.1 r.1 (subst (λ (o : Operator). i < o.outer) (one_item h.2.0 r.0 (sym h.2.1 ∙ r.1)) h.2.2.0) r.2
    where
      one : (a b : Operator) → Some a ≡ Some b → a ≡ b
      one a b q = cc
  slot_itself i (Placed at l (Use k ts)) h =
      let r : Standing (k, i) = h.2.1 in
      occurs_where_used at l k ts r.0 i r.1 (subst (λ (o : Operator). i < o.outer) (one_item h.0 r.0 (sym h.1 ∙ r.1)) h.2.0) r.2
    where
      one : (a b : Operator) → Some a ≡ Some b → a ≡ b
      one a b q = cc
  slot_itself i (Placed at l m) h = absurd h

  slot_sound : (i : ℕ) (e : Term) → In (SlotHere Standing i) e → Occurs ops e i
  slot_sound i _ (here e h) = slot_itself i e h
  slot_sound i _ (deeper at l m p c r) = occurs_in_part at l m p i c (slot_sound i p.term r)

  slot_complete : (w : ℕ) (S : Pair → Type 0) → ((b : Pair) → b.0 < length ops → b.1 < w → By ops (Occurs ops) SlotHere S b → S b) → (i : ℕ) (e : Term) → i < w → Occurs ops e i → In (SlotHere S i) e
  slot_complete w S closed _ _ lt (itself at l i) = here (Placed at l (Slot i)) refl
  slot_complete w S closed _ _ lt (occurs_in_part at l m p i c r) = deeper at l m p c (slot_complete w S closed i p.term lt r)
  slot_complete w S closed _ _ lt (occurs_in_let at l ks e k o i c q less r) =
      here (Placed at l (Scoped ks e)) (k, c, (o, q, (less, closed (k, i) (slice_get_within ops k o q) lt (o, q, slot_complete w S closed i o.body lt r))))
  slot_complete w S closed _ _ lt (occurs_where_used at l k ts o i q less r) =
      here (Placed at l (Use k ts)) (o, q, (less, closed (k, i) (slice_get_within ops k o q) lt (o, q, slot_complete w S closed i o.body lt r)))

  standing_or_not : (b : Pair) → Decided (Standing b)
  standing_or_not b =
      let lt : b.1 < suc b.1 = omega arith in
      row_or_not ops (Occurs ops) SlotHere (suc b.1) (slot_map (suc b.1)) slot_or_not slot_sound
      (λ S closed k o s q less r. slot_complete (suc b.1) S closed s o.body less r) b lt

  pub occurs_or_not : (e : Term) (i : ℕ) → Decided (Occurs ops e i)
  occurs_or_not e i =
      let lt : i < suc i = omega arith in
      turned (slot_sound i e, slot_complete (suc i) Standing (λ b p q h. (h.0, h.1, slot_sound b.1 h.0.body h.2)) i e lt) (in_or_not (SlotHere Standing i) (slot_or_not Standing standing_or_not i) e)

-- ---- a slot that stands under a prime

abbrev outers : List Operator → ℕ
outers [] = 0
outers (o ∷ os) = o.outer + outers os

abbrev weights : List Operator → ℕ
weights [] = 0
weights (o ∷ os) = weight o.body + weights os

outer_less : (ops : List Operator) (k : ℕ) (o : Operator) → slice_get ops k ≡ Some o → o.outer ≤ outers ops
outer_less [] k o e = absurd (cc)
outer_less (x ∷ ops) zero o e = (let same : x ≡ o = one_item x o e in subst (λ (y : Operator). y.outer ≤ x.outer + outers ops) same (omega arith))
outer_less (x ∷ ops) (suc k) o e = omega (arith, outer_less ops k o e)

weight_less : (ops : List Operator) (k : ℕ) (o : Operator) → slice_get ops k ≡ Some o → weight o.body ≤ weights ops
weight_less [] k o e = absurd (cc)
weight_less (x ∷ ops) zero o e = (let same : x ≡ o = one_item x o e in subst (λ (y : Operator). weight y.body ≤ weight x.body + weights ops) same (omega arith))
weight_less (x ∷ ops) (suc k) o e = omega (arith, weight_less ops k o e)

some_weight : (e : Term) → 0 < weight e
some_weight (Placed at l m) = omega arith

few_listed : (ts : Terms) → length (listed ts) ≤ in_terms ts
few_listed NoTerms = omega arith
few_listed (MoreTerms ts e) = omega (arith, few_listed ts, some_weight e, length-append (listed ts) (e ∷ []))

-- some number below another, or none
pub below_or_none : (P : ℕ → Type 0) (n : ℕ) → ((j : ℕ) → Decided (P j)) → Decided ((j : ℕ) × (j < n) × P j)
below_or_none P zero d = inr (λ h. omega (arith, h.1))
below_or_none P (suc n) d = by_last (d n) (below_or_none P n d)
  where
    by_last : Decided (P n) → Decided ((j : ℕ) × (j < n) × P j) → Decided ((j : ℕ) × (j < suc n) × P j)
    by_last (inl h) r = (let lt : n < suc n = omega arith in inl (n, lt, h))
    by_last (inr m) (inl r) = (let lt : r.0 < suc n = omega (arith, r.1) in inl (r.0, lt, r.2))
    by_last (inr m) (inr none) = inr (λ h. elim (within_or_past h.0 n) [ inl lt ↦ none (h.0, lt, h.2) | inr le ↦ (let same : h.0 ≡ n = omega (arith, le, h.1) in m (subst P same h.2)) ])

module _ (ops : List Operator) where
  abbrev Argued : ℕ → (Pair → Type 0) → ℕ → ℕ → Terms → Operator → ℕ → Type 0
  Argued w S i k ts o j = (e : Term) × (slice_get (listed ts) j ≡ Some e) × ((o.outer + j < w) × (S (k, o.outer + j) × Occurs ops e i))

  -- it stands in an argument whose parameter stands under a prime
  abbrev InArgument : ℕ → (Pair → Type 0) → ℕ → ℕ → Terms → Type 0
  InArgument w S i k ts = (o : Operator) × (slice_get ops k ≡ Some o) × ((j : ℕ) × (j < length (listed ts)) × Argued w S i k ts o j)

  abbrev primed_here : ℕ → (Pair → Type 0) → ℕ → Meaning → Type 0
  primed_here w S i (Scoped ks e) = (k : ℕ) × Contains ks k × Around ops S i k
  primed_here w S i (Use k ts) = Around ops S i k ⊎ InArgument w S i k ts
  primed_here w S i m = ⊥

  abbrev UnderHere : ℕ → Meaning → Type 0
  UnderHere i m = (p : Part) × Contains (parts false m) p × ((p.primed ≡ true) × Occurs ops p.term i)

  abbrev PrimedHere : ℕ → (Pair → Type 0) → ℕ → Term → Type 0
  PrimedHere w S i (Placed at l m) = UnderHere i m ⊎ primed_here w S i m

  abbrev Primed : ℕ → Pair → Type 0
  Primed w = OfRow ops (IsPrimed ops) (PrimedHere w)

  argument_or_not : (w : ℕ) (S : Pair → Type 0) → ((b : Pair) → Decided (S b)) → (i k : ℕ) (ts : Terms) → Decided (InArgument w S i k ts)
  argument_or_not w S d i k ts =
      item_with ops k (λ o. (j : ℕ) × (j < length (listed ts)) × Argued w S i k ts o j)
      (λ o. below_or_none (Argued w S i k ts o) (length (listed ts)) (λ j. item_with (listed ts) j (λ e. (o.outer + j < w) × (S (k, o.outer + j) × Occurs ops e i)) (λ e. both_or (less_or_not (o.outer + j) w) (both_or (d (k, o.outer + j)) (occurs_or_not ops e i)))))

  primed_here_or_not : (w : ℕ) (S : Pair → Type 0) → ((b : Pair) → Decided (S b)) → (i : ℕ) (m : Meaning) → Decided (primed_here w S i m)
  primed_here_or_not w S d i (Scoped ks e) = any_or_none (Around ops S i) ks (λ k c. around_or_not ops S d i k)
  primed_here_or_not w S d i (Use k ts) = either_or (around_or_not ops S d i k) (argument_or_not w S d i k ts)
  primed_here_or_not w S d i m = inr (λ h. h)

  primed_or_no : (w : ℕ) (S : Pair → Type 0) → ((b : Pair) → Decided (S b)) → (i : ℕ) (e : Term) → Decided (PrimedHere w S i e)
  primed_or_no w S d i (Placed at l m) =
      either_or (any_or_none (λ p. (p.primed ≡ true) × Occurs ops p.term i) (parts false m) (λ p c. both_or (true_is p.primed) (occurs_or_not ops p.term i))) (primed_here_or_not w S d i m)

  primed_map : (w : ℕ) (S Q : Pair → Type 0) (i : ℕ) → i < w → ((b : Pair) → b.0 < length ops → b.1 < w → S b → Q b) → (e : Term) → PrimedHere w S i e → PrimedHere w Q i e
  primed_map w S Q i lt f (Placed at l m) (inl h) = inl h
  primed_map w S Q i lt f (Placed at l (Scoped ks e)) (inr h) = inr (h.0, h.1, around_map ops S Q w i h.0 lt f h.2)
  primed_map w S Q i lt f (Placed at l (Use k ts)) (inr (inl h)) = inr (inl (around_map ops S Q w i k lt f h))
  primed_map w S Q i lt f (Placed at l (Use k ts)) (inr (inr h)) =
      let j : (j : ℕ) × (j < length (listed ts)) × Argued w S i k ts h.0 j = h.2 in
      let a : Argued w S i k ts h.0 j.0 = j.2 in
      inr (inr (h.0, h.1, (j.0, j.1, (a.0, a.1, (a.2.0, (f (k, h.0.outer + j.0) (slice_get_within ops k h.0 h.1) a.2.0 a.2.1.0, a.2.1.1))))))
  primed_map w S Q i lt f (Placed at l m) (inr h) = absurd h

  primed_itself : (w i : ℕ) (e : Term) → PrimedHere w (Primed w) i e → IsPrimed ops e i
  primed_itself w i (Placed at l m) (inl h) = under at l m h.0 i h.1 h.2.0 h.2.1
  primed_itself w i (Placed at l (Scoped ks e)) (inr h) =
      let r : Primed w (h.0, i) = h.2.2.1 in
      primed_in_let at l ks e h.0 r.0 i h.1 r.1 (subst (λ (o : Operator). i < o.outer) (one_item h.2.0 r.0 (sym h.2.1 ∙ r.1)) h.2.2.0) r.2
  primed_itself w i (Placed at l (Use k ts)) (inr (inl h)) =
      let r : Primed w (k, i) = h.2.1 in
      primed_where_used at l k ts r.0 i r.1 (subst (λ (o : Operator). i < o.outer) (one_item h.0 r.0 (sym h.1 ∙ r.1)) h.2.0) r.2
  primed_itself w i (Placed at l (Use k ts)) (inr (inr h)) =
      let j : (j : ℕ) × (j < length (listed ts)) × Argued w (Primed w) i k ts h.0 j = h.2 in
      let a : Argued w (Primed w) i k ts h.0 j.0 = j.2 in
      let r : Primed w (k, h.0.outer + j.0) = a.2.1.0 in
      let same : r.0 ≡ h.0 = one_item r.0 h.0 (sym r.1 ∙ h.1) in
      in_argument at l k ts h.0 j.0 a.0 i h.1 a.1 (subst (λ (o : Operator). IsPrimed ops o.body (h.0.outer + j.0)) same r.2) a.2.1.1
  primed_itself w i (Placed at l m) (inr h) = absurd h

  primed_sound : (w i : ℕ) (e : Term) → In (PrimedHere w (Primed w) i) e → IsPrimed ops e i
  primed_sound w i _ (here e h) = primed_itself w i e h
  primed_sound w i _ (deeper at l m p c r) = primed_in_part at l m p i c (primed_sound w i p.term r)

  module _ (n : ℕ) (rows : weights ops ≤ n) (w : ℕ) (wide : outers ops + n < w) (S : Pair → Type 0) (closed : (b : Pair) → b.0 < length ops → b.1 < w → By ops (IsPrimed ops) (PrimedHere w) S b → S b) where
    primed_complete : (i : ℕ) (e : Term) → i < w → weight e ≤ n → IsPrimed ops e i → In (PrimedHere w S i) e
    primed_complete _ _ lt le (under at l m p i c q r) = here (Placed at l m) (inl (p, c, (q, r)))
    primed_complete _ _ lt le (primed_in_part at l m p i c r) =
        deeper at l m p c (primed_complete i p.term lt (let less : weight p.term < weight (Placed at l m) = part_less at l m p c in omega (arith, le, less)) r)
    primed_complete _ _ lt le (in_argument at l k ts o j e i q s r t) =
        let few : j < length (listed ts) = slice_get_within (listed ts) j e s in
        let inside : o.outer + j < w = omega (arith, few, few_listed ts, le, outer_less ops k o q, wide) in
        let body : weight o.body ≤ n = omega (arith, weight_less ops k o q, rows) in
        here (Placed at l (Use k ts)) (inr (inr (o, q, (j, few, (e, s, (inside, (closed (k, o.outer + j) (slice_get_within ops k o q) inside (o, q, primed_complete (o.outer + j) o.body inside body r), t)))))))
    primed_complete _ _ lt le (primed_in_let at l ks e k o i c q less r) =
        let body : weight o.body ≤ n = omega (arith, weight_less ops k o q, rows) in
        here (Placed at l (Scoped ks e)) (inr (k, c, (o, q, (less, closed (k, i) (slice_get_within ops k o q) lt (o, q, primed_complete i o.body lt body r)))))
    primed_complete _ _ lt le (primed_where_used at l k ts o i q less r) =
        let body : weight o.body ≤ n = omega (arith, weight_less ops k o q, rows) in
        here (Placed at l (Use k ts)) (inr (inl (o, q, (less, closed (k, i) (slice_get_within ops k o q) lt (o, q, primed_complete i o.body lt body r)))))

  primed_row : (w : ℕ) → outers ops + weights ops < w → (b : Pair) → b.1 < w → Decided ((o : Operator) × (slice_get ops b.0 ≡ Some o) × IsPrimed ops o.body b.1)
  primed_row w wide b lt =
      let same : weights ops ≤ weights ops = omega arith in
      row_or_not ops (IsPrimed ops) (PrimedHere w) w (primed_map w) (primed_or_no w) (primed_sound w)
      (λ S closed k o s q less r. primed_complete (weights ops) same w wide S closed s o.body less (weight_less ops k o q) r) b lt

  any_primed_row : (b : Pair) → Decided ((o : Operator) × (slice_get ops b.0 ≡ Some o) × IsPrimed ops o.body b.1)
  any_primed_row b =
      let wide : outers ops + weights ops < suc (b.1 + (outers ops + weights ops)) = omega arith in
      let lt : b.1 < suc (b.1 + (outers ops + weights ops)) = omega arith in
      primed_row (suc (b.1 + (outers ops + weights ops))) wide b lt

  pub primed_or_not : (e : Term) (i : ℕ) → Decided (IsPrimed ops e i)
  primed_or_not e i =
      let rows : weights ops ≤ weights ops + weight e = omega arith in
      let wide : outers ops + (weights ops + weight e) < suc (i + (outers ops + (weights ops + weight e))) = omega arith in
      let lt : i < suc (i + (outers ops + (weights ops + weight e))) = omega arith in
      let le : weight e ≤ weights ops + weight e = omega arith in
      turned (primed_sound (suc (i + (outers ops + (weights ops + weight e)))) i e, primed_complete (weights ops + weight e) rows (suc (i + (outers ops + (weights ops + weight e)))) wide (Primed (suc (i + (outers ops + (weights ops + weight e))))) (λ b p q h. (h.0, h.1, primed_sound (suc (i + (outers ops + (weights ops + weight e)))) b.1 h.0.body h.2)) i e lt le)
      (in_or_not (PrimedHere (suc (i + (outers ops + (weights ops + weight e)))) (Primed (suc (i + (outers ops + (weights ops + weight e))))) i) (primed_or_no (suc (i + (outers ops + (weights ops + weight e)))) (Primed (suc (i + (outers ops + (weights ops + weight e))))) any_primed_row i) e)
