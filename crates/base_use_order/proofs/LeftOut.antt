-- Uses of definitions that are not marked.
use Rattle.std.proofs.Common.{◌≡◌, ◌∙◌, sym, ap, refl, subst, arith, inl, inr, ℕ, zero, suc, List, [], ◌∷◌, ◌++◌, length, ◌<◌, ◌≤◌, ◌+◌, length-append}
use Rattle.std.specs.Prelude.{◌↔◌, ◌⊎◌, Bool, true, false, Contains, IsTrue, MatchOption, None, Option, Some, Vec}
use Rattle.std.specs.declared.alloc.Global.{Global}
use Rattle.std.specs.List.{slice_index_or}
use Rattle.std.proofs.lemmas.List.{get_or_past, map-append}
use Rattle.base_use_order.specs.Uses.{IsOrder, IsWithin, Leads, direct, through, SomeUsesItself, Table, Uses, UsesItself, table_of, used_by}
use Rattle.base_use_order.proofs.Lists.{none_in, within_or_past}
use Rattle.base_use_order.specs.Apart.{AreApart, IsOrderApart, kept_by}

-- ---- one more row

in_front : (xs : Table) (u : List ℕ) (a : ℕ) → a < length xs → used_by (xs ++ u ∷ []) a ≡ used_by xs a
in_front [] u a lt = absurd (omega (arith, lt))
in_front (x ∷ xs) u zero lt = refl
in_front (x ∷ xs) u (suc a) lt = in_front xs u a (omega (arith, lt))

at_end : (xs : Table) (u : List ℕ) (a : ℕ) → a ≡ length xs → used_by (xs ++ u ∷ []) a ≡ u
at_end [] u zero q = refl
at_end [] u (suc a) q = absurd (omega (arith, q))
at_end (x ∷ xs) u zero q = absurd (omega (arith, q))
at_end (x ∷ xs) u (suc a) q = at_end xs u a (omega (arith, q))

kept_use : (b : Bool) (used : List ℕ) (j : ℕ) → Contains (kept_by b used) j ↔ ((b ≡ false) × Contains used j)
kept_use true used j = (λ c. absurd (none_in j c), λ h. absurd (no_false h.0))
  where
    no_false : true ≡ false → ⊥
    no_false q = cc
kept_use false used j = (λ c. (refl, c), λ h. h.1)

pub kept_marked : (b : Bool) (used : List ℕ) → b ≡ true → kept_by b used ≡ []
kept_marked b used q = ap (λ (c : Bool). kept_by c used) q

pub kept_free : (b : Bool) (used : List ℕ) → b ≡ false → kept_by b used ≡ used
kept_free b used q = ap (λ (c : Bool). kept_by c used) q

-- what the first rows are, so many of them
abbrev pub ApartSoFar : List Bool → Table → Table → ℕ → Type 0
ApartSoFar marks uses others n = (length others ≡ n) × ((a b : ℕ) → a < n → Uses others a b ↔ ((slice_index_or marks a false ≡ false) × Uses uses a b))

pub so_far_none : (marks : List Bool) (uses others : Table) → others ≡ [] → ApartSoFar marks uses others 0
so_far_none marks uses others q = (ap length q, λ a b lt. absurd (omega (arith, lt)))

below_or_at : (a n : ℕ) → a < n + 1 → (a < n) ⊎ (a ≡ n)
below_or_at a n lt = grind arith

pub so_far_more : (marks : List Bool) (uses xs ys : Table) (u : List ℕ) (n : ℕ) → ys ≡ xs ++ u ∷ [] → u ≡ kept_by (slice_index_or marks n false) (used_by uses n) → ApartSoFar marks uses xs n → ApartSoFar marks uses ys (n + 1)
so_far_more marks uses xs ys u n q is h = (counted, rows)
  where
    counted : length ys ≡ n + 1
    counted = ap length q ∙ length-append xs (u ∷ []) ∙ ap (λ (k : ℕ). k + 1) h.0

    rows : (a b : ℕ) → a < n + 1 → Uses ys a b ↔ ((slice_index_or marks a false ≡ false) × Uses uses a b)
    rows a b lt = elim (below_or_at a n lt) [
      | inl below ↦
          let same : used_by ys a ≡ used_by xs a = ap (λ (l : Table). used_by l a) q ∙ in_front xs u a (omega (arith, below, h.0)) in
          subst (λ (l : List ℕ). Contains l b ↔ ((slice_index_or marks a false ≡ false) × Uses uses a b)) (sym same) (h.1 a b below)
      | inr here ↦
          let same : used_by ys a ≡ kept_by (slice_index_or marks a false) (used_by uses a) =
          ap (λ (l : Table). used_by l a) q ∙ at_end xs u a (here ∙ sym h.0) ∙ is ∙ ap (λ (k : ℕ). kept_by (slice_index_or marks k false) (used_by uses k)) (sym here) in
          subst (λ (l : List ℕ). Contains l b ↔ ((slice_index_or marks a false ≡ false) × Uses uses a b)) (sym same) (kept_use (slice_index_or marks a false) (used_by uses a) b)
    ]

pub so_far_all : (marks : List Bool) (uses others : Table) (n : ℕ) → length uses ≤ n → n ≤ length uses → ApartSoFar marks uses others n → AreApart marks uses others
so_far_all marks uses others n le ge h = record { as_many = h.0 ∙ omega (arith, le, ge); uses_are = rows }
  where
    rows : (a b : ℕ) → Uses others a b ↔ ((slice_index_or marks a false ≡ false) × Uses uses a b)
    rows a b = elim (within_or_past a n) [
      | inl lt ↦ h.1 a b lt
      | inr past ↦
          let none : used_by others a ≡ [] = get_or_past others a [] (omega (arith, past, h.0)) in
          let empty : used_by uses a ≡ [] = get_or_past uses a [] (omega (arith, past, le)) in
          (λ c. absurd (none_in b (subst (λ (l : List ℕ). Contains l b) none c)), λ k. absurd (none_in b (subst (λ (l : List ℕ). Contains l b) empty k.1)))
    ]

pub table_pushed : (us vs : List (Vec ℕ Global)) (u : Vec ℕ Global) → vs ≡ us ++ u ∷ [] → table_of vs ≡ table_of us ++ u.items ∷ []
table_pushed us vs u q = ap table_of q ∙ map-append (λ (v : Vec ℕ Global). v.items) us (u ∷ [])

-- ---- an order

module _ (marks : List Bool) (uses others : Table) (apart : AreApart marks uses others) where
  leads_on : (a b : ℕ) → Leads others a b → Leads uses a b
  leads_on _ _ (direct a b u) = direct a b ((apart.uses_are a b).0 u).1
  leads_on _ _ (through a b c u rest) = through a b c ((apart.uses_are a b).0 u).1 (leads_on b c rest)

  unmarked : (a b : ℕ) → Leads others a b → slice_index_or marks a false ≡ false
  unmarked _ _ (direct a b u) = ((apart.uses_are a b).0 u).0
  unmarked _ _ (through a b c u rest) = ((apart.uses_are a b).0 u).0

  pub none_itself : ((a : ℕ) → UsesItself uses a → IsTrue (slice_index_or marks a false)) → SomeUsesItself others → ⊥
  none_itself marked h = no_mark (subst IsTrue (unmarked h.0 h.0 h.1) (marked h.0 (leads_on h.0 h.0 h.1)))
    where
      no_mark : IsTrue false → ⊥
      no_mark q = cc

  pub within_apart : IsWithin uses → IsWithin others
  within_apart w a b u = subst (λ (n : ℕ). b < n) (sym apart.as_many) (w a b ((apart.uses_are a b).0 u).1)

  pub order_is : (order : List ℕ) → IsOrder others order → IsOrderApart marks uses order
  order_is order is = record {
    all = λ a. subst (λ (n : ℕ). (a < n) ↔ Contains order a) apart.as_many (is.all a);
    once = is.once;
    used_before = λ a b before after q free u. is.used_before a b before after q ((apart.uses_are a b).1 (free, u));
  }

pub never_none : {A : Type 0} (o : Option A) (P : Type 0) (Q : A → Type 0) → (P → ⊥) → MatchOption o P Q → o ≡ None → ⊥
never_none o P Q never h q = never (subst (λ x. MatchOption x P Q) q h)

pub some_is : {A : Type 0} (o : Option A) (P : Type 0) (Q : A → Type 0) (x : A) → MatchOption o P Q → o ≡ Some x → Q x
some_is o P Q x h q = subst (λ y. MatchOption y P Q) q h
