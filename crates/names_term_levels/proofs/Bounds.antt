-- Each slot of a text is below the bound of its table, and each of its faults is among the table's.
use Rattle.std.proofs.Common.{◌≡◌, List, [], ◌∷◌, ◌++◌, inl, inr, subst, arith, sym, ap, map, ◌<◌, ◌≤◌}
use Rattle.std.specs.Prelude.{◌⊎◌, ℕ, zero, suc, false, Contains, Some, slice_get}
use Rattle.std.proofs.lemmas.List.Elements.{Contains-append_left, Contains-append_right}
use Rattle.base_core.specs.declared.place.Place.{Place}
use Rattle.names_terms.specs.declared.level.Level.{Level}
use Rattle.names_terms.specs.declared.operator.Operator.{Operator}
use Rattle.names_terms.specs.Terms as term
use Rattle.names_terms.specs.Terms.{Term, Placed, Meaning, Terms, place_of}
use Rattle.names_term_parts.specs.declared.fault.LevelFault.{LevelFault}
use Rattle.names_term_parts.specs.declared.fault.LevelFault.TheVariants.{PrimedArgument}
use Rattle.names_term_parts.specs.Limits.{limits}
use Rattle.names_term_parts.specs.Parts.{Part, part, parts, listed}
use Rattle.names_term_parts.specs.Slots.{Occurs, itself, occurs_in_part, occurs_in_let, occurs_where_used, IsPrimed, under, primed_in_part, in_argument, primed_in_let, primed_where_used}
use Rattle.names_term_parts.specs.Weights.{weight, inner, total}
use Rattle.names_term_parts.proofs.Contained.{contains_cons, contains_head, contains_tail, contains_nothing}
use Rattle.names_term_parts.proofs.Lists.{item_in}
use Rattle.names_term_parts.proofs.Weights.{of_parts, total-cons}
use Rattle.names_term_levels.specs.Faults.{IsFault, too_high as fault_too_high, primed_argument, in_part, of_let}
use Rattle.names_term_levels.specs.Telling.{all_of, argument_faults, bound_all, bound_of, faults_all, faults_in, sum_of, too_high}
use Rattle.names_term_levels.proofs.Texts.{plain_at}

-- one of a sum, and one of a list of lists
pub in_sum : {A : Type 0} (of : A → ℕ) (xs : List A) (x : A) → Contains xs x → of x ≤ sum_of of xs
in_sum of [] x c = absurd (contains_nothing x c)
in_sum of (y ∷ xs) x c = elim (contains_cons y xs x c) [
  | inl e ↦ (let same : of y ≡ of x = ap of e in omega (arith, same))
  | inr k ↦ (let rest : of x ≤ sum_of of xs = in_sum of xs x k in omega (arith, rest))
]

pub in_all : {A B : Type 0} (of : A → List B) (xs : List A) (x : A) (y : B) → Contains xs x → Contains (of x) y → Contains (all_of of xs) y
in_all of [] x y c h = absurd (contains_nothing x c)
in_all {A} {B} of (z ∷ xs) x y c h = elim (contains_cons z xs x c) [
  | inl e ↦ Contains-append_left (of z) (all_of of xs) y (subst (λ (w : A). Contains (of w) y) (sym e) h)
  | inr k ↦ Contains-append_right (of z) (all_of of xs) y (in_all of xs x y k h)
]

in_mapped : {A B : Type 0} (f : A → B) (xs : List A) (x : A) → Contains xs x → Contains (map f xs) (f x)
in_mapped f [] x c = absurd (contains_nothing x c)
in_mapped {A} {B} f (y ∷ xs) x c = elim (contains_cons y xs x c) [
  | inl e ↦ subst (λ (w : A). Contains (f y ∷ map f xs) (f w)) e (contains_head (f y) (map f xs))
  | inr k ↦ contains_tail (f y) (map f xs) (f x) (in_mapped f xs x k)
]

-- a part weighs less
weighs : (ps : List Part) (p : Part) → Contains ps p → weight p.term ≤ total ps
weighs [] p c = absurd (contains_nothing p c)
weighs (x ∷ ps) p c = elim (contains_cons x ps p c) [
  | inl s ↦ let w : weight x.term ≡ weight p.term = ap (λ (z : Part). weight z.term) s in omega (arith, total-cons x ps)
  | inr k ↦ omega (arith, weighs ps p k, total-cons x ps)
]

part_weighs : (m : Meaning) (n : ℕ) (p : Part) → suc (inner m) ≤ suc n → Contains (parts false m) p → weight p.term ≤ n
part_weighs m n p le c = omega (arith, le, weighs (parts false m) p c, of_parts false m)

module _ (ops : List Operator) where
  -- a slot of the text, so many terms deep, or one of a definition
  abbrev IsWithin : ℕ → Term → ℕ → Type 0
  IsWithin n e i = (i < bound_of n e) ⊎ (i < bound_all ops)

  within_body : (k : ℕ) (o : Operator) (i : ℕ) → slice_get ops k ≡ Some o → IsWithin (weight o.body) o.body i → i < bound_all ops
  within_body k o i is w = elim w [
    | inl own ↦ (let most : bound_of (weight o.body) o.body ≤ bound_all ops = in_sum (λ p. bound_of (weight p.body) p.body) ops o (item_in ops k o is) in omega (arith, own, most))
    | inr all ↦ all
  ]

  within_part : (n : ℕ) (at : Place) (l : Level) (m : Meaning) (p : Part) (i : ℕ) → Contains (parts false m) p → IsWithin n p.term i → IsWithin (suc n) (Placed at l m) i
  within_part n at l m p i c w = elim w [
    | inl own ↦ inl (let most : bound_of n p.term ≤ sum_of (λ q. bound_of n q.term) (parts false m) = in_sum (λ q. bound_of n q.term) (parts false m) p c in omega (arith, own, most))
    | inr all ↦ inr all
  ]

  occurs_within : (n : ℕ) (e : Term) (i : ℕ) → weight e ≤ n → Occurs ops e i → IsWithin n e i
  occurs_within zero (Placed at l m) i le w = absurd (omega (arith, le))
  occurs_within (suc n) _ _ le (itself at l i) = inl (omega arith)
  occurs_within (suc n) _ _ le (occurs_in_part at l m p i c w) = within_part n at l m p i c (occurs_within n p.term i (part_weighs m n p le c) w)
  occurs_within (suc n) _ _ le (occurs_in_let at l ks e k o i c is lt w) = inr (within_body k o i is (occurs_within (weight o.body) o.body i (omega arith) w))
  occurs_within (suc n) _ _ le (occurs_where_used at l k ts o i is lt w) = inr (within_body k o i is (occurs_within (weight o.body) o.body i (omega arith) w))

  -- a slot under a prime stands in the text
  pub primed_occurs : (e : Term) (i : ℕ) → IsPrimed ops e i → Occurs ops e i
  primed_occurs _ _ (under at l m p i c own w) = occurs_in_part at l m p i c w
  primed_occurs _ _ (primed_in_part at l m p i c w) = occurs_in_part at l m p i c (primed_occurs p.term i w)
  primed_occurs _ _ (in_argument at l k ts o j e i is nth h w) = occurs_in_part at l (term.Use k ts) (part false e) i (plain_at (listed ts) j e nth) w
  primed_occurs _ _ (primed_in_let at l ks e k o i c is lt w) = occurs_in_let at l ks e k o i c is lt (primed_occurs o.body i w)
  primed_occurs _ _ (primed_where_used at l k ts o i is lt w) = occurs_where_used at l k ts o i is lt (primed_occurs o.body i w)

  pub body_slots : (k : ℕ) (o : Operator) (i : ℕ) → slice_get ops k ≡ Some o → Occurs ops o.body i → i < bound_all ops
  body_slots k o i is w = within_body k o i is (occurs_within (weight o.body) o.body i (omega arith) w)

  -- a fault of the text, so many terms deep, or one of a definition
  abbrev IsAmong : ℕ → Term → LevelFault → Type 0
  IsAmong n e f = Contains (faults_in n e) f ⊎ Contains (faults_all ops) f

  among_body : (k : ℕ) (o : Operator) (f : LevelFault) → slice_get ops k ≡ Some o → IsAmong (weight o.body) o.body f → Contains (faults_all ops) f
  among_body k o f is w = elim w [ inl own ↦ in_all (λ p. faults_in (weight p.body) p.body) ops o f (item_in ops k o is) own | inr all ↦ all ]

  own_among : (n : ℕ) (at : Place) (l : Level) (m : Meaning) (f : LevelFault) → Contains (map too_high (limits at m) ++ argument_faults m) f → IsAmong (suc n) (Placed at l m) f
  own_among n at l m f c = inl (Contains-append_left (map too_high (limits at m) ++ argument_faults m) (all_of (λ p. faults_in n p.term) (parts false m)) f c)

  fault_among : (n : ℕ) (e : Term) (f : LevelFault) → weight e ≤ n → IsFault ops e f → IsAmong n e f
  fault_among zero (Placed at l m) f le w = absurd (omega (arith, le))
  fault_among (suc n) _ _ le (fault_too_high at l m x c t) =
      own_among n at l m (too_high x) (Contains-append_left (map too_high (limits at m)) (argument_faults m) (too_high x) (in_mapped too_high (limits at m) x c))
  fault_among (suc n) _ _ le (primed_argument at l k ts o j e is nth h t) =
      own_among n at l (term.Use k ts) (PrimedArgument (place_of e))
      (Contains-append_right (map too_high (limits at (term.Use k ts))) (argument_faults (term.Use k ts)) (PrimedArgument (place_of e)) (in_mapped (λ x. PrimedArgument (place_of x)) (listed ts) e (item_in (listed ts) j e nth)))
  fault_among (suc n) _ _ le (in_part at l m p f c w) = elim (fault_among n p.term f (part_weighs m n p le c) w) [
    | inl own ↦ inl (Contains-append_right (map too_high (limits at m) ++ argument_faults m) (all_of (λ q. faults_in n q.term) (parts false m)) f (in_all (λ q. faults_in n q.term) (parts false m) p f c own))
    | inr all ↦ inr all
  ]
  fault_among (suc n) _ _ le (of_let at l ks e k o f c is w) = inr (among_body k o f is (fault_among (weight o.body) o.body f (omega arith) w))

  pub body_faults : (k : ℕ) (o : Operator) (f : LevelFault) → slice_get ops k ≡ Some o → IsFault ops o.body f → Contains (faults_all ops) f
  body_faults k o f is w = among_body k o f is (fault_among (weight o.body) o.body f (omega arith) w)
