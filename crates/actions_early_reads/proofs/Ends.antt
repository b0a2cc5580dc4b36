-- How many levels a term needs, and what is orderly.
use Rattle.std.proofs.Common.{◌≡◌, ◌⊎◌, inl, inr, sym, refl, subst, [], ◌∷◌, arith}
use Rattle.std.specs.Prelude.{◌+◌, ℕ, zero, suc, Bool, true, false, min, Option, Some, None, Contains, slice_get}
use Rattle.std.specs.List.{AllByRecursion as Each}
use Rattle.std.proofs.lemmas.List.Elements.{All-from_recursion, recursion_from_All}
use Rattle.base_core.specs.declared.place.Place.{Place}
use Rattle.reading_trees.specs.declared.operators.PrefixOperator.TheVariants as prefix
use Rattle.names_terms.specs.declared.level.Level.{Level}
use Rattle.names_terms.specs.declared.level.Level.TheVariants as levels
use Rattle.names_terms.specs.declared.operator.Operator.{Operator}
use Rattle.names_terms.specs.Lists.{terms_list}
use Rattle.names_terms.specs.Terms as term
use Rattle.names_terms.specs.Terms.{Term, Placed, Meaning, Terms, meaning_of, level_of}
use Rattle.names_term_parts.specs.Parts.{Part, part, parts}
use Rattle.names_term_parts.proofs.Contained.{contains_cons, contains_nothing}
use Rattle.eval_meanings.specs.Contexts.{Table}
use Rattle.eval_meanings.specs.Unchanged.{behind, prime_of, unchanged_of, changed_of}
use Rattle.actions_meanings.specs.Reads.{Ends, body_of, terms_in, parts_in}
use Rattle.actions_early_reads.specs.Orderly.{itself, stands_in_part, stands_in_body, IsSound, IsSoundThroughout}
use Rattle.actions_early_reads.proofs.Each.{each-weaker, each-from}
use Rattle.actions_early_reads.proofs.Rows.{terms-hold, parts-hold}

-- WHAT ENDS

pub ends-in : (ops : Table) (k : ℕ) (at : Place) (l : Level) (m : Meaning) → Ends ops (suc k) (Placed at l m) → (l ≡ levels.Constant) ⊎ Each (Ends ops k) (terms_in ops at m)
ends-in ops k at levels.Constant m h = inl refl
ends-in ops k at levels.State m h = inr (recursion_from_All (Ends ops k) (terms_in ops at m) h)
ends-in ops k at levels.Action m h = inr (recursion_from_All (Ends ops k) (terms_in ops at m) h)
ends-in ops k at levels.Temporal m h = inr (recursion_from_All (Ends ops k) (terms_in ops at m) h)

pub ends-of : (ops : Table) (k : ℕ) (at : Place) (l : Level) (m : Meaning) → Each (Ends ops k) (terms_in ops at m) → Ends ops (suc k) (Placed at l m)
ends-of ops k at levels.Constant m h = tt
ends-of ops k at levels.State m h = All-from_recursion (Ends ops k) (terms_in ops at m) h
ends-of ops k at levels.Action m h = All-from_recursion (Ends ops k) (terms_in ops at m) h
ends-of ops k at levels.Temporal m h = All-from_recursion (Ends ops k) (terms_in ops at m) h

ends-constant : (ops : Table) (k : ℕ) (at : Place) (l : Level) (m : Meaning) → l ≡ levels.Constant → Ends ops (suc k) (Placed at l m)
ends-constant ops k at l m q = subst (λ (z : Level). Ends ops (suc k) (Placed at z m)) (sym q) tt

pub ends-more : (ops : Table) (k : ℕ) (e : Term) → Ends ops k e → Ends ops (suc k) e
ends-more ops zero e h = absurd h
ends-more ops (suc k) (Placed at l m) h = elim (ends-in ops k at l m h) [
  | inl q ↦ ends-constant ops (suc k) at l m q
  | inr each ↦ ends-of ops (suc k) at l m (each-weaker (Ends ops k) (Ends ops (suc k)) (ends-more ops k) (terms_in ops at m) each)
]

-- with so many levels more
pub ends-plus : (ops : Table) (n k : ℕ) (e : Term) → Ends ops k e → Ends ops (n + k) e
ends-plus ops zero k e h = let q : k ≡ zero + k = omega arith in subst (λ (z : ℕ). Ends ops z e) q h
ends-plus ops (suc n) k e h = let q : suc (n + k) ≡ suc n + k = omega arith in subst (λ (z : ℕ). Ends ops z e) q (ends-more ops (n + k) e (ends-plus ops n k e h))

pub stays-ends : (ops : Table) (k : ℕ) (at : Place) (e : Term) → Ends ops k e → Ends ops (suc k) (unchanged_of at e)
stays-ends ops k at e h = ends-of ops k at levels.Action (term.Prefix prefix.Unchanged e) (h, tt)

pub ends-stays : (ops : Table) (k : ℕ) (at : Place) (e : Term) → Ends ops (suc k) (unchanged_of at e) → Ends ops k e
ends-stays ops k at e h = (recursion_from_All (Ends ops k) (e ∷ []) h).0

pub unstay : (ops : Table) (k : ℕ) (at : Place) (e : Term) → Ends ops k (unchanged_of at e) → Ends ops k e
unstay ops zero at e h = absurd h
unstay ops (suc k) at e h = ends-more ops k e (ends-stays ops k at e h)

pub unchange : (ops : Table) (k : ℕ) (at : Place) (e : Term) → Ends ops k (changed_of at e) → Ends ops k e
unchange ops zero at e h = absurd h
unchange ops (suc k) at e h = ends-more ops k e ((recursion_from_All (Ends ops k) (prime_of at e ∷ e ∷ []) h).1.0)

pub ends-parts : (ops : Table) (k : ℕ) (b : Bool) (at : Place) (m : Meaning) → Each (Ends ops k) (terms_in ops at m) → Each (λ (p : Part). Ends ops k p.term) (parts_in ops b m)
ends-parts ops k b at m h = parts-hold (Ends ops k) (unstay ops k) (unchange ops k) ops b at m h

some_operator : {a b : Operator} → Some a ≡ Some b → a ≡ b
some_operator e = cc

-- FOLLOWING NAMES

abbrev pub chosen : Option Operator → ℕ × Term → (Operator → ℕ × Term) → ℕ × Term
chosen r e follow = elim r [ None ↦ e | Some o ↦ follow o ]

found-holds : (P : Term → Type 0) (e : Term) (m : ℕ) (follow : Operator → ℕ × Term) (r : Option Operator) → P e → ((o : Operator) → r ≡ Some o → P (follow o).1) → P (chosen r (m, e) follow).1
found-holds P e m follow None h k = h
found-holds P e m follow (Some o) h k = k o refl

-- what holds of a term and of the body of each name without arguments that it holds of, holds of what stands behind
pub behind-holds : (ops : Table) (P : Term → Type 0) → ((at : Place) (k : ℕ) (o : Operator) → slice_get ops k ≡ Some o → P (Placed at levels.State (term.Use k term.NoTerms)) → P o.body) → (n m : ℕ) (e : Term) → P e → P (behind ops n m e).1
behind-holds ops P go zero m e h = h
behind-holds ops P go (suc n) m (Placed at levels.State (term.Use k term.NoTerms)) h =
    found-holds P (Placed at levels.State (term.Use k term.NoTerms)) m (λ o. behind ops n (min o.outer m) o.body) (slice_get ops k) h (λ o q. behind-holds ops P go n (min o.outer m) o.body (go at k o q h))
behind-holds ops P go (suc n) m e h = h

pub behind-constant : (ops : Table) (n m : ℕ) (at : Place) (w : Meaning) → behind ops n m (Placed at levels.Constant w) ≡ (m, Placed at levels.Constant w)
behind-constant ops zero m at w = refl
behind-constant ops (suc n) m at w = refl

pub ends-behind : (ops : Table) (k n m : ℕ) (e : Term) → Ends ops k e → Ends ops k (behind ops n m e).1
ends-behind ops k n m e h = behind-holds ops (Ends ops k) (follow k) n m e h
  where
    follow : (k : ℕ) (at : Place) (i : ℕ) (o : Operator) → slice_get ops i ≡ Some o → Ends ops k (Placed at levels.State (term.Use i term.NoTerms)) → Ends ops k o.body
    follow zero at i o q h = absurd h
    follow (suc k) at i o q h =
        let each : Each (Ends ops k) (body_of (slice_get ops i)) = recursion_from_All (Ends ops k) (body_of (slice_get ops i)) h in
        let one : Each (Ends ops k) (o.body ∷ []) = subst (λ (r : Option Operator). Each (Ends ops k) (body_of r)) q each in
        ends-more ops k o.body one.0

-- of a tuple that ends, UNCHANGED of each part does, or the tuple is constant
pub ends-items : (ops : Table) (k : ℕ) (at p : Place) (l : Level) (ts : Terms) → Ends ops k (Placed p l (term.Tuple ts)) → (l ≡ levels.Constant) ⊎ Each (λ e. Ends ops k (unchanged_of at e)) (terms_list ts)
ends-items ops zero at p l ts h = absurd h
ends-items ops (suc k) at p l ts h = elim (ends-in ops k p l (term.Tuple ts) h) [
  | inl q ↦ inl q
  | inr each ↦ inr (each-weaker (Ends ops k) (λ e. Ends ops (suc k) (unchanged_of at e)) (λ e h. stays-ends ops k at e h) (terms_list ts) each)
]

-- WHAT IS ORDERLY

module _ (ops : Table) (v : ℕ) where
  pub orderly-part : (at : Place) (l : Level) (m : Meaning) (p : Part) → Contains (parts false m) p → IsSoundThroughout ops v (Placed at l m) → IsSoundThroughout ops v p.term
  orderly-part at l m p c h f i = h f (stands_in_part at l m p f c i)

  pub orderly-body : (at : Place) (l : Level) (k : ℕ) (ts : Terms) (o : Operator) → slice_get ops k ≡ Some o → IsSoundThroughout ops v (Placed at l (term.Use k ts)) → IsSoundThroughout ops v o.body
  orderly-body at l k ts o q h f i = h f (stands_in_body at l k ts o f q i)

  pub orderly-of : (e : Term) → IsSound v e → ((p : Part) → Contains (parts false (meaning_of e)) p → IsSoundThroughout ops v p.term) → ((k : ℕ) (ts : Terms) (o : Operator) → meaning_of e ≡ term.Use k ts → slice_get ops k ≡ Some o → IsSoundThroughout ops v o.body) → IsSoundThroughout ops v e
  orderly-of _ own inner body _ (itself e) = own
  orderly-of _ own inner body _ (stands_in_part at l m p f c i) = inner p c f i
  orderly-of _ own inner body _ (stands_in_body at l k ts o f q i) = body k ts o refl q f i

  one-part : (b : Bool) (e : Term) → IsSoundThroughout ops v e → (p : Part) → Contains (part b e ∷ []) p → IsSoundThroughout ops v p.term
  one-part b e h p c = elim (contains_cons (part b e) [] p c) [
    | inl s ↦ subst (λ (y : Part). IsSoundThroughout ops v y.term) s h
    | inr k ↦ absurd (contains_nothing p k)
  ]

  two-parts : (b c : Bool) (e f : Term) → IsSoundThroughout ops v e → IsSoundThroughout ops v f → (p : Part) → Contains (part b e ∷ part c f ∷ []) p → IsSoundThroughout ops v p.term
  two-parts b c e f h k p i = elim (contains_cons (part b e) (part c f ∷ []) p i) [
    | inl s ↦ subst (λ (y : Part). IsSoundThroughout ops v y.term) s h
    | inr j ↦ one-part c f k p j
  ]

  pub orderly-stays : (at : Place) (e : Term) → IsSoundThroughout ops v e → IsSoundThroughout ops v (unchanged_of at e)
  orderly-stays at e h = orderly-of (unchanged_of at e) (tt, tt) (one-part true e h) (λ k ts o q r. absurd (cc))

  orderly-primed : (at : Place) (e : Term) → IsSoundThroughout ops v e → IsSoundThroughout ops v (prime_of at e)
  orderly-primed at e h = orderly-of (prime_of at e) (tt, tt) (one-part true e h) (λ k ts o q r. absurd (cc))

  orderly-changed : (at : Place) (e : Term) → IsSoundThroughout ops v e → IsSoundThroughout ops v (changed_of at e)
  orderly-changed at e h = orderly-of (changed_of at e) (tt, tt) (two-parts false false (prime_of at e) e (orderly-primed at e h) h) (λ k ts o q r. absurd (cc))

  pub orderly-terms : (at : Place) (l : Level) (m : Meaning) → IsSoundThroughout ops v (Placed at l m) → Each (IsSoundThroughout ops v) (terms_in ops at m)
  orderly-terms at l m h =
      terms-hold (IsSoundThroughout ops v) (IsSoundThroughout ops v) (λ e k. k) orderly-stays orderly-changed ops false at m
      (λ k ts o q r. let calls : IsSoundThroughout ops v (Placed at l (term.Use k ts)) = subst (λ (y : Meaning). IsSoundThroughout ops v (Placed at l y)) q h in orderly-body at l k ts o r calls)
      (each-from (λ (p : Part). IsSoundThroughout ops v p.term) (parts false m) (λ p c. orderly-part at l m p c h))

  pub orderly-behind : (n m : ℕ) (e : Term) → IsSoundThroughout ops v e → IsSoundThroughout ops v (behind ops n m e).1
  orderly-behind n m e h = behind-holds ops (IsSoundThroughout ops v) (λ at k o q y. orderly-body at levels.State k term.NoTerms o q y) n m e h
