-- A function with given pairs, and lists of values by their numbers.
use Rattle.std.proofs.Common.{◌≡◌, ◌↔◌, ◌⊎◌, inl, inr, ℕ, zero, suc, ◌<◌, ◌≤◌, List, [], ◌∷◌, length, map, Bool, true, false, cond, Err, ap, sym, ◌∙◌, subst, refl, arith}
use Rattle.std.specs.declared.cmp.Ordering.{Ordering}
use Rattle.std.specs.declared.cmp.Ordering.TheVariants.{Less, Equal, Greater}
use Rattle.std.specs.Ordering.{match_ordering, ordering_reverse}
use Rattle.std.specs.List.{Contains, AllByRecursion}
use Rattle.std.specs.List.Sorted.{IsStrictlySortedBy}
use Rattle.std.proofs.lemmas.Map.Keys.{sorted_tail}
use Rattle.values_core.specs.Data.{Val, model, truth, integer, string, set, function, Vals, no_vals, more_vals, members, pairs_of, pairs_depth}
use Rattle.values_core.specs.Ascending.{cons_cases, head_in, tail_in, none_in, below}
use Rattle.values_core.specs.Order.{val_cmp, val_eq}
use Rattle.values_core.specs.OrderLaws.{val_total, val_ties, val_same}
use Rattle.values_core.specs.IsValue.{IsValue, IsCanonical, AreCanonical, HaveCanonical, max_members}
use Rattle.values_core.specs.Sets.{Member}
use Rattle.values_core.specs.SetLaws.{member_shallow}
use Rattle.values_core.specs.SetOperations.{AreDifferent, AreTooMany}
use Rattle.values_core.specs.Functions.{IsFunctionOf, MakesFunction}
use Rattle.values_core.specs.FunctionOperations.{GivesValue}
use Rattle.values_core.specs.FunctionLaws.{key_cmp, key_total, keys_ascending, key_in, in_keys, entries-pairs_of, key_count, count_cons, none_alike}
use Rattle.values_core.specs.declared.value.ValueFault.{ValueFault}
use Rattle.values_core.specs.declared.value.ValueFault.TheVariants.{KeyTwice, TooLarge as LargeValue, TooDeep as DeepValue, NoMemory as NoRoom}
use Rattle.values_operations.specs.Choices.{AreNumbered, ArePairs, IsInner}
use Rattle.values_core.specs.Refusals.{refusal_of}

-- ascending lists
all_from : {X : Type 0} (P : X → Type 0) (xs : List X) → ((w : X) → Contains xs w → P w) → AllByRecursion P xs
all_from P [] f = tt
all_from P (x ∷ xs) f = (f x (head_in x xs), all_from P xs (λ w h. f w (tail_in x xs w h)))

pub sorted_cons : {X : Type 0} (R : X → X → Ordering) (x : X) (xs : List X) → ((w : X) → Contains xs w → R x w ≡ Less) → IsStrictlySortedBy R xs → IsStrictlySortedBy R (x ∷ xs)
unfolding IsStrictlySortedBy
sorted_cons R x xs f s = (all_from (λ w. R x w ≡ Less) xs f, s)

pub sorted_none : {X : Type 0} (R : X → X → Ordering) → IsStrictlySortedBy R []
unfolding IsStrictlySortedBy
sorted_none R = tt

cons_in : {X : Type 0} (x : X) (xs : List X) (v : X) → (x ≡ v) ⊎ Contains xs v → Contains (x ∷ xs) v
cons_in x xs v (inl e) = subst (λ w. Contains (x ∷ xs) w) e (head_in x xs)
cons_in x xs v (inr h) = tail_in x xs v h

-- a pair put at its place among pairs that ascend by key
abbrev put : Val × Val → List (Val × Val) → List (Val × Val)
put p [] = p ∷ []
put p (q ∷ qs) = match_ordering (val_cmp p.0 q.0) (p ∷ q ∷ qs) (p ∷ q ∷ qs) (q ∷ put p qs)

in_put : (p : Val × Val) (qs : List (Val × Val)) (r : Val × Val) → Contains (put p qs) r → (p ≡ r) ⊎ Contains qs r
in_put p [] r h = cons_cases p [] r h
in_put p (q ∷ qs) r h = by_order (in_put p qs r) (val_cmp p.0 q.0) h
  where
    by_order : (Contains (put p qs) r → (p ≡ r) ⊎ Contains qs r) → (o : Ordering) → Contains (match_ordering o (p ∷ q ∷ qs) (p ∷ q ∷ qs) (q ∷ put p qs)) r → (p ≡ r) ⊎ Contains (q ∷ qs) r
    by_order ih Less g = cons_cases p (q ∷ qs) r g
    by_order ih Equal g = cons_cases p (q ∷ qs) r g
    by_order ih Greater g = elim (cons_cases q (put p qs) r g) [
      | inl e ↦ inr (cons_in q qs r (inl e))
      | inr k ↦ elim (ih k) [
        | inl e ↦ inl e
        | inr l ↦ inr (tail_in q qs r l)
      ]
    ]

put_in : (p : Val × Val) (qs : List (Val × Val)) (r : Val × Val) → (p ≡ r) ⊎ Contains qs r → Contains (put p qs) r
put_in p [] r h = cons_in p [] r h
put_in p (q ∷ qs) r h = by_order (put_in p qs r) (val_cmp p.0 q.0)
  where
    by_order : ((p ≡ r) ⊎ Contains qs r → Contains (put p qs) r) → (o : Ordering) → Contains (match_ordering o (p ∷ q ∷ qs) (p ∷ q ∷ qs) (q ∷ put p qs)) r
    by_order ih Less = cons_in p (q ∷ qs) r h
    by_order ih Equal = cons_in p (q ∷ qs) r h
    by_order ih Greater = elim h [
      | inl e ↦ tail_in q (put p qs) r (ih (inl e))
      | inr g ↦ elim (cons_cases q qs r g) [
        | inl e ↦ cons_in q (put p qs) r (inl e)
        | inr k ↦ tail_in q (put p qs) r (ih (inr k))
      ]
    ]

put_ascending : (p : Val × Val) (qs : List (Val × Val)) → ¬ Contains (map (λ r. r.0) qs) p.0 → IsStrictlySortedBy key_cmp qs → IsStrictlySortedBy key_cmp (put p qs)
put_ascending p [] n s = sorted_cons key_cmp p [] (λ w h. absurd (none_in w h)) s
put_ascending p (q ∷ qs) n s =
    by_order (put_ascending p qs (λ h. n (tail_in q.0 (map (λ (r : Val × Val). r.0) qs) p.0 h)) (sorted_tail key_cmp q qs s)) (val_cmp p.0 q.0) refl
  where
    by_order : IsStrictlySortedBy key_cmp (put p qs) → (o : Ordering) → val_cmp p.0 q.0 ≡ o → IsStrictlySortedBy key_cmp (match_ordering o (p ∷ q ∷ qs) (p ∷ q ∷ qs) (q ∷ put p qs))
    by_order ih Less e = sorted_cons key_cmp p (q ∷ qs) (λ w h. elim (cons_cases q qs w h) [
      | inl f ↦ subst (λ (z : Val × Val). val_cmp p.0 z.0 ≡ Less) f e
      | inr g ↦ val_total.trans p.0 q.0 w.0 e (below key_cmp key_total q qs w s g)
    ]) s
    by_order ih Equal e =
        absurd (n (subst (λ (k : Val). Contains (q.0 ∷ map (λ (r : Val × Val). r.0) qs) k) (sym (val_ties p.0 q.0 e)) (head_in q.0 (map (λ (r : Val × Val). r.0) qs))))
    by_order ih Greater e =
        let turned : val_cmp q.0 p.0 ≡ Less = val_total.antisymm q.0 p.0 ∙ ap ordering_reverse e in
        sorted_cons key_cmp q (put p qs) (λ w h. elim (in_put p qs w h) [
          | inl f ↦ subst (λ (z : Val × Val). val_cmp q.0 z.0 ≡ Less) f turned
          | inr g ↦ below key_cmp key_total q qs w s g
        ]) ih

length-put : (p : Val × Val) (qs : List (Val × Val)) → length (put p qs) ≡ suc (length qs)
length-put p [] = refl
length-put p (q ∷ qs) = by_order (length-put p qs) (val_cmp p.0 q.0)
  where
    by_order : length (put p qs) ≡ suc (length qs) → (o : Ordering) → length (match_ordering o (p ∷ q ∷ qs) (p ∷ q ∷ qs) (q ∷ put p qs)) ≡ suc (suc (length qs))
    by_order ih Less = refl
    by_order ih Equal = refl
    by_order ih Greater = ap suc ih

abbrev in_order : List (Val × Val) → List (Val × Val)
in_order [] = []
in_order (p ∷ ps) = put p (in_order ps)

in_ordered : (ps : List (Val × Val)) (r : Val × Val) → Contains (in_order ps) r → Contains ps r
in_ordered [] r h = h
in_ordered (p ∷ ps) r h = elim (in_put p (in_order ps) r h) [
  | inl e ↦ cons_in p ps r (inl e)
  | inr g ↦ tail_in p ps r (in_ordered ps r g)
]

ordered_in : (ps : List (Val × Val)) (r : Val × Val) → Contains ps r → Contains (in_order ps) r
ordered_in [] r h = h
ordered_in (p ∷ ps) r h = put_in p (in_order ps) r (elim (cons_cases p ps r h) [
  | inl e ↦ inl e
  | inr g ↦ inr (ordered_in ps r g)
])

ordered_ascending : (ps : List (Val × Val)) → AreDifferent (map (λ p. p.0) ps) → IsStrictlySortedBy key_cmp (in_order ps)
ordered_ascending [] d = sorted_none key_cmp
ordered_ascending (p ∷ ps) d =
    put_ascending p (in_order ps) (λ h. let w = key_in (in_order ps) p.0 h in d.0 (in_keys ps (p.0, w.0) (in_ordered ps (p.0, w.0) w.1))) (ordered_ascending ps d.1)

length-in_order : (ps : List (Val × Val)) → length (in_order ps) ≡ length ps
length-in_order [] = refl
length-in_order (p ∷ ps) = length-put p (in_order ps) ∙ ap suc (length-in_order ps)

have_canonical : (ps : List (Val × Val)) → ((p : Val × Val) → Contains ps p → IsInner p.0 × IsInner p.1) → HaveCanonical (pairs_of ps)
have_canonical [] f = tt
have_canonical (p ∷ ps) f = let w = f p (head_in p ps) in (w.0.valid.canonical, w.1.valid.canonical, have_canonical ps (λ q h. f q (tail_in p ps q h)))

pairs_shallow : (ps : List (Val × Val)) → ((p : Val × Val) → Contains ps p → IsInner p.0 × IsInner p.1) → pairs_depth (pairs_of ps) ≤ 31
pairs_shallow [] f = omega arith
pairs_shallow (p ∷ ps) f =
    let w = f p (head_in p ps) in
    let rest = pairs_shallow ps (λ q h. f q (tail_in p ps q h)) in
    omega (arith, w.0.shallow, w.1.shallow, rest)

length-map : (ps : List (Val × Val)) → length (map (λ p. p.0) ps) ≡ length ps
length-map [] = refl
length-map (p ∷ ps) = ap suc (length-map ps)

-- there is a function with these pairs
pub function_exists : (ps : List (Val × Val)) → ArePairs ps → (f : Val) × IsFunctionOf ps f
function_exists ps a =
    let qs = in_order ps in
    let back = entries-pairs_of (in_order ps) in
    let s = ordered_ascending ps a.different in
    let inner = λ (p : Val × Val) (h : Contains (in_order ps) p). a.inner p (in_ordered ps p h) in (
      function (pairs_of (in_order ps)),
      record {
        valid = record {
          canonical = (
            record {
              ascending = subst (λ (rs : List (Val × Val)). IsStrictlySortedBy val_cmp (map (λ p. p.0) rs)) (sym back) (keys_ascending (in_order ps) s);
              few = omega (arith, a.few, length-in_order ps, length-map (in_order ps), ap (λ (rs : List (Val × Val)). length (map (λ p. p.0) rs)) back);
            },
            have_canonical (in_order ps) inner,
          );
          shallow = omega (arith, pairs_shallow (in_order ps) inner);
        };
        is_function = tt;
        same = λ key v. subst (λ (rs : List (Val × Val)). Contains rs (key, v) ↔ Contains ps (key, v)) (sym back) (in_ordered ps (key, v), ordered_in ps (key, v));
      },
    )

-- no key comes twice where the keys differ
different_once : (ps : List (Val × Val)) → AreDifferent (map (λ p. p.0) ps) → (key : Val) → key_count key ps ≤ 1
different_once [] d key = omega arith
different_once (p ∷ ps) d key = either (different_once ps d.1 key) (val_eq p.0 key) refl
  where
    most_one : (b : Bool) → cond b 1 0 ≤ 1
    most_one true = omega arith
    most_one false = omega arith

    none : (b : Bool) → b ≡ false → cond b 1 0 ≤ 0
    none true e = cc
    none false e = omega arith

    either : key_count key ps ≤ 1 → (b : Bool) → val_eq p.0 key ≡ b → key_count key (p ∷ ps) ≤ 1
    either few true e =
        let rest : key_count key ps ≡ 0 = none_alike ps key (λ q g f. d.0 (subst (λ (k : Val). Contains (map (λ (r : Val × Val). r.0) ps) k) (f ∙ sym (val_same p.0 key e)) (in_keys ps q g))) in
        omega (arith, count_cons key p ps, rest, most_one (val_eq p.0 key))
    either few false e = omega (arith, count_cons key p ps, few, none (val_eq p.0 key) e)

-- such a function is refused for want of memory alone
pub refuses_none : (ps : List (Val × Val)) (e : ValueFault) → ArePairs ps → MakesFunction ps (Err e) → GivesValue (IsFunctionOf ps) (Err (refusal_of e))
refuses_none ps KeyTwice a m = absurd (omega (arith, m.twice, different_once ps a.different m.key))
refuses_none ps LargeValue a m = absurd (omega (arith, m.1, a.few))
refuses_none ps DeepValue a m = absurd (omega (arith, m.2, pairs_shallow ps a.inner))
refuses_none ps NoRoom a m = tt

-- a member of a set may stand in another value
canonical_in : (vs : Vals) (v : Val) → AreCanonical vs → Contains (members vs) v → IsCanonical v
canonical_in no_vals v c h = absurd (none_in v h)
canonical_in (more_vals u us) v c h = elim (cons_cases u (members us) v h) [
  | inl e ↦ subst (λ (w : Val). IsCanonical w) e c.0
  | inr g ↦ canonical_in us v c.1 g
]

member_canonical : (s v : Val) → IsValue s → Member v s → IsCanonical v
member_canonical (set vs) v p h = canonical_in vs v p.canonical.1 h
member_canonical (model s) v p h = absurd (none_in v h)
member_canonical (truth s) v p h = absurd (none_in v h)
member_canonical (integer s) v p h = absurd (none_in v h)
member_canonical (string s) v p h = absurd (none_in v h)
member_canonical (function s) v p h = absurd (none_in v h)

pub member_inner : (s v : Val) → IsValue s → Member v s → IsInner v
member_inner s v p h =
    let few = member_shallow s v p h in
    record { valid = record { canonical = member_canonical s v p h; shallow = omega (arith, few) }; shallow = few }

-- values of different numbers, as a list
numbered : (Q : ℕ → Val → Type 0) (n : ℕ) → ((k : ℕ) → k < n → (v : Val) × Q k v) → ((j k : ℕ) (v : Val) → j < n → k < n → Q j v → Q k v → j ≡ k)
    → (m : ℕ) → m ≤ n → (vs : List Val) × (length vs ≡ m) × AreDifferent vs × ((v : Val) → Contains vs v → (k : ℕ) × (k < m) × Q k v)
numbered Q n some once zero h = ([], refl, tt, λ v g. absurd (none_in v g))
numbered Q n some once (suc m) h =
    let w = numbered Q n some once m (omega (arith, h)) in
    let u = some m (omega (arith, h)) in (
      u.0 ∷ w.0,
      ap suc w.1,
      (λ g. let k = w.3 u.0 g in omega (arith, k.1, once k.0 m u.0 (omega (arith, k.1, h)) (omega (arith, h)) k.2 u.1), w.2),
      λ v g. elim (cons_cases u.0 w.0 v g) [
        | inl e ↦ (m, omega arith, subst (λ (z : Val). Q m z) e u.1)
        | inr i ↦ let k = w.3 v i in (k.0, omega (arith, k.1), k.2)
      ],
    )

pub numbered_too_many : (P : Val → Type 0) (Q : ℕ → Val → Type 0) (n : ℕ) → max_members < n → ((k : ℕ) → k < n → (v : Val) × Q k v) → ((j k : ℕ) (v : Val) → j < n → k < n → Q j v → Q k v → j ≡ k)
    → ((k : ℕ) (v : Val) → k < n → Q k v → P v) → AreTooMany P
numbered_too_many P Q n many some once meets =
    let w = numbered Q n some once n (omega arith) in
    record { some = w.0; different = w.2; each = λ v h. let k = w.3 v h in meets k.0 v k.1 k.2; many = omega (arith, many, w.1) }

pub numbered_as : (P : Val → Type 0) (Q : ℕ → Val → Type 0) (n : ℕ) (vs : List Val) → AreNumbered Q n vs → ((k : ℕ) (v : Val) → k < n → Q k v → P v) → ((v : Val) → P v → (k : ℕ) × (k < n) × Q k v)
    → ((k : ℕ) (v w : Val) → Q k v → Q k w → v ≡ w) → (v : Val) → Contains vs v ↔ P v
numbered_as P Q n vs a there back one v = (
  λ h. let k = a.each v h in there k.0 v k.1 k.2,
  λ p. let k = back v p in let w = a.all k.0 k.1 in subst (λ (u : Val). Contains vs u) (one k.0 w.0 v w.2 k.2) w.1,
)
