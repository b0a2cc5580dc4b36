-- Definitions that use those of smaller numbers alone, or themselves.
use Rattle.std.proofs.Common.{◌≡◌, List, [], ◌∷◌, ◌++◌, ap, inl, inr, refl, subst, sym, arith, length, ◌+◌, ◌<◌, ◌≤◌}
use Rattle.std.specs.Prelude.{◌≢◌, ◌⊎◌, ℕ, zero, suc, Some, slice_get}
use Rattle.std.proofs.lemmas.List.{length-append}
use Rattle.names_terms.specs.declared.level.Level.TheVariants as levels
use Rattle.names_terms.specs.declared.operator.Operator.{Operator}
use Rattle.names_terms.specs.declared.operator.Own.{Own}
use Rattle.names_terms.specs.declared.operator.Own.TheVariants.{Apart, Function, Itself}
use Rattle.names_terms.specs.Terms.{Term, level_of}
use Rattle.names_term_parts.specs.Slots.{IsInOrder, MentionsBelow, UsesSmaller}
use Rattle.names_term_parts.proofs.Lists.{item_within}

pub below_more : (n m : ℕ) (e : Term) → n ≤ m → MentionsBelow n e → MentionsBelow m e
below_more n m e le h k u = let lt : k < n = h k u in omega arith

-- where there are more definitions
pub in_order_more : (n m k : ℕ) (own : Own) (e : Term) → n ≤ m → IsInOrder n k own e → IsInOrder m k own e
in_order_more n m k Apart e le h = h
in_order_more n m k Itself e le h = (h.0, below_more n m e le h.1)
in_order_more n m k Function e le h = (h.0, below_more n m e le h.1)

-- of smaller numbers alone, or constant
pub in_order_cases : (n k : ℕ) (own : Own) (e : Term) → IsInOrder n k own e → (level_of e ≡ levels.Constant) ⊎ MentionsBelow k e
in_order_cases n k Apart e h = inr h
in_order_cases n k Itself e h = inl h.0
in_order_cases n k Function e h = inl h.0

pub in_order_within : (n k : ℕ) (own : Own) (e : Term) → k < n → IsInOrder n k own e → MentionsBelow n e
in_order_within n k Apart e lt h = below_more k n e (omega (arith, lt)) h
in_order_within n k Itself e lt h = h.1
in_order_within n k Function e lt h = h.1

-- a definition that does not use itself
pub apart_below : (ops : List Operator) (k : ℕ) (o : Operator) → UsesSmaller ops → slice_get ops k ≡ Some o → o.own ≡ Apart → MentionsBelow k o.body
apart_below ops k o smaller is apart = subst (λ (own : Own). IsInOrder (length ops) k own o.body) apart (smaller k o is)

-- one whose body is not constant
pub higher_below : (ops : List Operator) (k : ℕ) (o : Operator) → UsesSmaller ops → slice_get ops k ≡ Some o → level_of o.body ≢ levels.Constant → MentionsBelow k o.body
higher_below ops k o smaller is higher = elim (in_order_cases (length ops) k o.own o.body (smaller k o is)) [ inl c ↦ absurd (higher c) | inr h ↦ h ]

-- whatever a definition uses is in the table
pub body_within : (ops : List Operator) (k : ℕ) (o : Operator) → UsesSmaller ops → slice_get ops k ≡ Some o → MentionsBelow (length ops) o.body
body_within ops k o smaller is = in_order_within (length ops) k o.own o.body (item_within ops k o is) (smaller k o is)

-- an item of a list with one more
pub item_or_last : {A : Type 0} (xs : List A) (y : A) (k : ℕ) (x : A) → slice_get (xs ++ y ∷ []) k ≡ Some x → (slice_get xs k ≡ Some x) ⊎ ((length xs ≡ k) × (y ≡ x))
item_or_last [] y zero x q = inr (refl, cc)
item_or_last [] y (suc k) x q = absurd (cc)
item_or_last (z ∷ xs) y zero x q = inl q
item_or_last (z ∷ xs) y (suc k) x q = elim (item_or_last xs y k x q) [ inl e ↦ inl e | inr p ↦ inr (ap suc p.0, p.1) ]

-- one more, which uses those before it alone
pub smaller_pushed : (table : List Operator) (o : Operator) → UsesSmaller table → o.own ≡ Apart → MentionsBelow (length table) o.body → UsesSmaller (table ++ o ∷ [])
smaller_pushed table o smaller apart below k p e = elim (item_or_last table o k p e) [
  | inl before ↦ in_order_more (length table) (length (table ++ o ∷ [])) k p.own p.body longer (smaller k p before)
  | inr last ↦ subst (λ (i : ℕ). IsInOrder (length (table ++ o ∷ [])) i p.own p.body) last.0 (subst (λ (q : Operator). IsInOrder (length (table ++ o ∷ [])) (length table) q.own q.body) last.1 at_end)
]
  where
    longer : length table ≤ length (table ++ o ∷ [])
    longer = omega (arith, length-append table (o ∷ []))

    at_end : IsInOrder (length (table ++ o ∷ [])) (length table) o.own o.body
    at_end = subst (λ (own : Own). IsInOrder (length (table ++ o ∷ [])) (length table) own o.body) (sym apart) below
