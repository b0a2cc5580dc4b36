-- What a term of an instance says of a state is what the term of its module says of the state that the module sees there.
use Rattle.std.proofs.Common.{◌≡◌, ◌∙◌, sym, ap, refl, subst, arith, List, [], ◌∷◌, ◌++◌, length, inl, inr}
use Rattle.std.specs.Prelude.{◌⊎◌, ◌<◌, ℕ, zero, suc, Option, Some, None, slice_get}
use Rattle.values_core.specs.Data.{Val}
use Rattle.names_terms.specs.Terms.{Term}
use Rattle.names_term_parts.specs.Slots.{UsesSmaller}
use Rattle.eval_meanings.specs.Contexts.{Context, Places, Table}
use Rattle.actions_meanings.specs.declared.which.Which.{Which}
use Rattle.actions_meanings.specs.Forms.{Setting}
use Rattle.actions_meanings.specs.Holds.{Holds}
use Rattle.twice_instances.specs.Alikeness.{Like}
use Rattle.twice_instances.specs.SeenStates.{InstanceEvaluates, InstanceDescribes, InstanceHolds}
use Rattle.twice_instances.specs.Seen.{IsSubstitute, place_or_empty, seen_in, seen_through}
use Rattle.twice_instances.proofs.Behind.{behind_alike}
use Rattle.twice_instances.proofs.Holding.{EvaluationAlike, holds_alike}
use Rattle.twice_instances.proofs.Outcomes.{evaluates_same, describes_same}
use Rattle.twice_instances.proofs.Sight.{AreSeen}
use Rattle.twice_instances.proofs.Turning.{turned, turned_term}

-- lists with one item more

get_last : {A : Type 0} (xs : List A) (y : A) → slice_get (xs ++ y ∷ []) (length xs) ≡ Some y
get_last [] y = refl
get_last (x ∷ xs) y = get_last xs y

get_before : {A : Type 0} (xs : List A) (y : A) (i : ℕ) → i < length xs → slice_get (xs ++ y ∷ []) i ≡ slice_get xs i
get_before [] y i h = absurd (omega (arith, h))
get_before (x ∷ xs) y zero h = refl
get_before (x ∷ xs) y (suc i) h = get_before xs y i (omega (arith, h))

length_more : {A : Type 0} (xs : List A) (y : A) → length (xs ++ y ∷ []) ≡ suc (length xs)
length_more [] y = refl
length_more (x ∷ xs) y = ap suc (length_more xs y)

before_or_last : (x n : ℕ) → x < suc n → (x < n) ⊎ (x ≡ n)
before_or_last zero zero h = inr refl
before_or_last zero (suc n) h = inl (omega arith)
before_or_last (suc x) zero h = absurd (omega (arith, h))
before_or_last (suc x) (suc n) h = elim (before_or_last x n (omega (arith, h))) [ inl l ↦ inl (omega (arith, l)) | inr q ↦ inr (ap suc q) ]

known_of : (o : Option (Option Val)) (v : Val) → Some (place_or_empty o) ≡ Some (Some v) → o ≡ Some (Some v)
known_of None v h = absurd (cc)
known_of (Some p) v h = h

abbrev as_it_is : Places → Places
as_it_is p = p

module _ (substitute : ℕ → ℕ) where
  seen_length : (n : ℕ) (p : Places) → length (seen_through substitute n p) ≡ n
  seen_length zero p = refl
  seen_length (suc n) p = length_more (seen_through substitute n p) (place_or_empty (slice_get p (substitute n))) ∙ ap suc (seen_length n p)

  -- of each variable the place of its substitute is seen
  seen_at : (n : ℕ) (p : Places) (x : ℕ) → x < n → slice_get (seen_through substitute n p) x ≡ Some (place_or_empty (slice_get p (substitute x)))
  seen_at zero p x h = absurd (omega (arith, h))
  seen_at (suc n) p x h = elim (before_or_last x n h) [
    | inl l ↦
        get_before (seen_through substitute n p) (place_or_empty (slice_get p (substitute n))) x (subst (λ (z : ℕ). x < z) (sym (seen_length n p)) l) ∙ seen_at n p x l
    | inr q ↦
        let at_end : slice_get (seen_through substitute (suc n) p) (length (seen_through substitute n p)) ≡ Some (place_or_empty (slice_get p (substitute n))) =
        get_last (seen_through substitute n p) (place_or_empty (slice_get p (substitute n))) in
        let there : slice_get (seen_through substitute (suc n) p) n ≡ Some (place_or_empty (slice_get p (substitute n))) =
        subst (λ (z : ℕ). slice_get (seen_through substitute (suc n) p) z ≡ Some (place_or_empty (slice_get p (substitute n)))) (seen_length n p) at_end in
        subst (λ (z : ℕ). slice_get (seen_through substitute (suc n) p) z ≡ Some (place_or_empty (slice_get p (substitute z)))) (sym q) there
  ]

  seen_by : (n : ℕ) → AreSeen (IsSubstitute substitute n) (seen_through substitute n) as_it_is
  seen_by n x y h p v k =
      let q : slice_get p (substitute x) ≡ Some (Some v) = known_of (slice_get p (substitute x)) v (sym (seen_at n p x h.0) ∙ k) in
      subst (λ (z : ℕ). slice_get p z ≡ Some (Some v)) (sym h.1) q

  seen_back : (n : ℕ) → AreSeen (turned (IsSubstitute substitute n)) as_it_is (seen_through substitute n)
  seen_back n y x h p v k =
      seen_at n p x h.0 ∙ ap (λ (o : Option (Option Val)). Some (place_or_empty o)) (subst (λ (z : ℕ). slice_get p z ≡ Some (Some v)) h.1 k)

pub instance_evaluates : InstanceEvaluates
instance_evaluates substitute n ops all here there a i l d c r =
    let Stands : ℕ → ℕ → Type 0 = IsSubstitute substitute n in
    let see : Places → Places = seen_through substitute n in
    (evaluates_same (turned Stands) as_it_is see (seen_back substitute n) all ops there here d c i a (turned_term Stands ops all a i l) r, evaluates_same Stands see as_it_is (seen_by substitute n) ops all here there d c a i l r)

pub instance_describes : InstanceDescribes
instance_describes substitute n ops all here there a i l d c r =
    let Stands : ℕ → ℕ → Type 0 = IsSubstitute substitute n in
    let see : Places → Places = seen_through substitute n in
    (describes_same (turned Stands) as_it_is see (seen_back substitute n) all ops there here d c i a (turned_term Stands ops all a i l) r, describes_same Stands see as_it_is (seen_by substitute n) ops all here there d c a i l r)

evaluation : (Stands : ℕ → ℕ → Type 0) (see look : Places → Places) → AreSeen Stands see look → (ops all : Table) → UsesSmaller ops → UsesSmaller all → EvaluationAlike Stands see look ops all
evaluation Stands see look seen ops all here there = record {
  evaluates = evaluates_same Stands see look seen ops all here there;
  describes = describes_same Stands see look seen ops all here there;
  behind = behind_alike Stands ops all here there;
}

-- an action holds of two states where an alike one does, in a setting of the same kind
holds_seen : (Stands : ℕ → ℕ → Type 0) (see look : Places → Places) → AreSeen Stands see look → (g h : Setting) → g.which ≡ h.which → UsesSmaller g.table → UsesSmaller h.table → (a b : Term) → Like Stands g.table h.table a b
    → (d : ℕ) (c : Context) → Holds g d (seen_in see c) a → Holds h d (seen_in look c) b
holds_seen Stands see look seen g h kinds here there a b l d c =
    subst (λ (w : Which). Holds g d (seen_in see c) a → Holds (record { which = w; variables = h.variables; table = h.table }) d (seen_in look c) b) kinds
    (holds_alike Stands see look seen g.which g.variables h.variables g.table h.table (evaluation Stands see look seen g.table h.table here there) d c a b l)

pub instance_holds : InstanceHolds
instance_holds substitute n g h kinds here there a i l d c =
    let Stands : ℕ → ℕ → Type 0 = IsSubstitute substitute n in
    let see : Places → Places = seen_through substitute n in
    (holds_seen (turned Stands) as_it_is see (seen_back substitute n) h g (sym kinds) there here i a (turned_term Stands g.table h.table a i l) d c, holds_seen Stands see as_it_is (seen_by substitute n) g h kinds here there a i l d c)
