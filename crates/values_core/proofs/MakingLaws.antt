-- What making a function answers, and what stands in a value.
use Rattle.std.proofs.Common.{◌≡◌, ◌↔◌, inl, inr, ℕ, suc, ◌<◌, ◌≤◌, max, List, [], ◌∷◌, length, Bool, true, false, cond, ap, sym, ◌∙◌, subst, refl, arith}
use Rattle.std.specs.declared.cmp.Ordering.{Ordering}
use Rattle.std.specs.declared.cmp.Ordering.TheVariants.{Less, Equal, Greater}
use Rattle.std.specs.Ordering.{ordering_reverse}
use Rattle.std.specs.List.{Contains, AllByRecursion, remove}
use Rattle.std.specs.List.Sorted.{IsStrictlySortedBy, IsPermutation}
use Rattle.std.proofs.lemmas.List.{length-map}
use Rattle.std.proofs.lemmas.List.Sorted.{IsPermutation-remove, Contains-permutation, length_permutation}
use Rattle.values_core.specs.Data.{Val, model, truth, integer, string, set, function, Vals, no_vals, more_vals, Pairs, no_pairs, more_pairs, members, entries, pairs_of, depth, pairs_depth}
use Rattle.values_core.specs.Order.{val_cmp, val_eq}
use Rattle.values_core.specs.OrderLaws.{val_total, val_ties, val_eq_equiv}
use Rattle.values_core.specs.Ascending.{cons_cases, head_in, tail_in, none_in, below}
use Rattle.values_core.specs.IsValue.{IsValue, IsCanonical, AreCanonical, HaveCanonical, max_members, max_depth}
use Rattle.values_core.specs.Sets.{Member, MembersAreValues}
use Rattle.values_core.specs.SetLaws.{member_shallow}
use Rattle.values_core.specs.Functions.{FunctionAnswers, HasKeyTwice, IsFunction, IsFunctionOf, OfValues, PairsAreValues, pairs_in}
use Rattle.values_core.specs.FunctionLaws.{key_cmp, key_total, key_count, count_cons, entries-pairs_of, function_is, functions_by_pairs, keys_ascending, keys_ordered}
use Rattle.values_core.proofs.FunctionLemmas.{pair_depth_all, pair_depth_in, valid_function}

-- What stands in a value.

canonical_member : (vs : Vals) (v : Val) → AreCanonical vs → Contains (members vs) v → IsCanonical v
canonical_member no_vals v h k = absurd (none_in v k)
canonical_member (more_vals u us) v h k = elim (cons_cases u (members us) v k) [
  | inl e ↦ subst IsCanonical e h.0
  | inr g ↦ canonical_member us v h.1 g
]

canonical_in_set : (s v : Val) → IsCanonical s → Member v s → IsCanonical v
canonical_in_set (set vs) v c h = canonical_member vs v c.1 h
canonical_in_set (model s) v c h = absurd (none_in v h)
canonical_in_set (truth s) v c h = absurd (none_in v h)
canonical_in_set (integer s) v c h = absurd (none_in v h)
canonical_in_set (string s) v c h = absurd (none_in v h)
canonical_in_set (function s) v c h = absurd (none_in v h)

pub members_are_values : MembersAreValues
members_are_values s v p h = record { canonical = canonical_in_set s v p.canonical h; shallow = omega (arith, member_shallow s v p h) }

canonical_pair : (ps : Pairs) (p : Val × Val) → HaveCanonical ps → Contains (entries ps) p → IsCanonical p.0 × IsCanonical p.1
canonical_pair no_pairs p h k = absurd (none_in p k)
canonical_pair (more_pairs a b ps) p h k = elim (cons_cases (a, b) (entries ps) p k) [
  | inl e ↦ subst (λ (q : Val × Val). IsCanonical q.0 × IsCanonical q.1) e (h.0, h.1)
  | inr g ↦ canonical_pair ps p h.2 g
]

canonical_in_function : (f : Val) (p : Val × Val) → IsCanonical f → Contains (pairs_in f) p → IsCanonical p.0 × IsCanonical p.1
canonical_in_function (function ps) p c h = canonical_pair ps p c.1 h
canonical_in_function (model s) p c h = absurd (none_in p h)
canonical_in_function (truth s) p c h = absurd (none_in p h)
canonical_in_function (integer s) p c h = absurd (none_in p h)
canonical_in_function (string s) p c h = absurd (none_in p h)
canonical_in_function (set s) p c h = absurd (none_in p h)

-- what has a pair is a function
has_pairs : (f : Val) (p : Val × Val) → Contains (pairs_in f) p → IsFunction f
has_pairs (function ps) p h = tt
has_pairs (model s) p h = absurd (none_in p h)
has_pairs (truth s) p h = absurd (none_in p h)
has_pairs (integer s) p h = absurd (none_in p h)
has_pairs (string s) p h = absurd (none_in p h)
has_pairs (set s) p h = absurd (none_in p h)

shallow_in_function : (f : Val) (p : Val × Val) → IsValue f → Contains (pairs_in f) p → max (depth p.0) (depth p.1) ≤ 31
shallow_in_function f p v h = omega (arith, pair_depth_in (pairs_in f) p h, ap depth (function_is f (has_pairs f p h)), v.shallow)

first_below : (a b : ℕ) → max a b ≤ 31 → a ≤ 32
first_below a b h = omega arith

second_below : (a b : ℕ) → max a b ≤ 31 → b ≤ 32
second_below a b h = omega arith

pub pairs_are_values : PairsAreValues
pairs_are_values f key v p h =
    let canonical = canonical_in_function f (key, v) p.canonical h in
    let low = shallow_in_function f (key, v) p h in (
      record { canonical = canonical.0; shallow = first_below (depth key) (depth v) low },
      record { canonical = canonical.1; shallow = second_below (depth key) (depth v) low },
    )

-- Pairs in the order of their keys.

-- ys has the pairs xs, and their keys ascend
record IsInOrder (xs ys : List (Val × Val)) : Type 0 where
  pub ascending : IsStrictlySortedBy key_cmp ys
  pub same : (p : Val × Val) → Contains ys p ↔ Contains xs p
  pub long : length ys ≡ length xs

all_of : {X : Type 0} (P : X → Type 0) (xs : List X) → ((x : X) → Contains xs x → P x) → AllByRecursion P xs
all_of P [] f = tt
all_of P (x ∷ xs) f = (f x (head_in x xs), all_of P xs (λ y h. f y (tail_in x xs y h)))

below_all : (p : Val × Val) (ps : List (Val × Val)) → ((q : Val × Val) → Contains ps q → val_cmp p.0 q.0 ≡ Less) → IsStrictlySortedBy key_cmp ps → IsStrictlySortedBy key_cmp (p ∷ ps)
unfolding IsStrictlySortedBy
below_all p ps f s = (all_of (λ q. key_cmp p q ≡ Less) ps f, s)

rest_ascends : (p : Val × Val) (ps : List (Val × Val)) → IsStrictlySortedBy key_cmp (p ∷ ps) → IsStrictlySortedBy key_cmp ps
unfolding IsStrictlySortedBy
rest_ascends p ps s = s.1

none_ascends : IsStrictlySortedBy key_cmp []
unfolding IsStrictlySortedBy
none_ascends = tt

same_itself : (ps : List (Val × Val)) (p : Val × Val) → Contains ps p ↔ Contains ps p
same_itself ps p = (λ h. h, λ h. h)

-- a pair whose key is none of the keys finds its place
placed : (p : Val × Val) (ps : List (Val × Val)) → IsStrictlySortedBy key_cmp ps → ((q : Val × Val) → Contains ps q → p.0 ≡ q.0 → ⊥) → (ys : List (Val × Val)) × IsInOrder (p ∷ ps) ys
placed p [] s new = (p ∷ [], record { ascending = below_all p [] (λ q h. absurd (none_in q h)) none_ascends; same = same_itself (p ∷ []); long = refl })
placed p (q ∷ qs) s new = by_order (val_cmp p.0 q.0) refl (placed p qs (rest_ascends q qs s) (λ r h. new r (tail_in q qs r h)))
  where
    further : (r : Val × Val) → val_cmp p.0 q.0 ≡ Less → Contains (q ∷ qs) r → val_cmp p.0 r.0 ≡ Less
    further r e h = elim (cons_cases q qs r h) [
      | inl g ↦ subst (λ (w : Val × Val). val_cmp p.0 w.0 ≡ Less) g e
      | inr g ↦ val_total.trans p.0 q.0 r.0 e (below key_cmp key_total q qs r s g)
    ]

    behind : (ys : List (Val × Val)) → IsInOrder (p ∷ qs) ys → val_cmp q.0 p.0 ≡ Less → (r : Val × Val) → Contains ys r → val_cmp q.0 r.0 ≡ Less
    behind ys o e r h = elim (cons_cases p qs r ((o.same r).0 h)) [
      | inl g ↦ subst (λ (w : Val × Val). val_cmp q.0 w.0 ≡ Less) g e
      | inr g ↦ below key_cmp key_total q qs r s g
    ]

    there : (ys : List (Val × Val)) → IsInOrder (p ∷ qs) ys → (r : Val × Val) → Contains (q ∷ ys) r → Contains (p ∷ q ∷ qs) r
    there ys o r h = elim (cons_cases q ys r h) [
      | inl g ↦ tail_in p (q ∷ qs) r (subst (λ (w : Val × Val). Contains (q ∷ qs) w) g (head_in q qs))
      | inr g ↦ elim (cons_cases p qs r ((o.same r).0 g)) [
        | inl k ↦ subst (λ (w : Val × Val). Contains (p ∷ q ∷ qs) w) k (head_in p (q ∷ qs))
        | inr k ↦ tail_in p (q ∷ qs) r (tail_in q qs r k)
      ]
    ]

    back : (ys : List (Val × Val)) → IsInOrder (p ∷ qs) ys → (r : Val × Val) → Contains (p ∷ q ∷ qs) r → Contains (q ∷ ys) r
    back ys o r h = elim (cons_cases p (q ∷ qs) r h) [
      | inl g ↦ tail_in q ys r ((o.same r).1 (subst (λ (w : Val × Val). Contains (p ∷ qs) w) g (head_in p qs)))
      | inr g ↦ elim (cons_cases q qs r g) [
        | inl k ↦ subst (λ (w : Val × Val). Contains (q ∷ ys) w) k (head_in q ys)
        | inr k ↦ tail_in q ys r ((o.same r).1 (tail_in p qs r k))
      ]
    ]

    turned : val_cmp p.0 q.0 ≡ Greater → val_cmp q.0 p.0 ≡ Less
    turned e = val_total.antisymm q.0 p.0 ∙ ap ordering_reverse e

    by_order : (o : Ordering) → val_cmp p.0 q.0 ≡ o → (ys : List (Val × Val)) × IsInOrder (p ∷ qs) ys → (ys : List (Val × Val)) × IsInOrder (p ∷ q ∷ qs) ys
    by_order Less e rest = (p ∷ q ∷ qs, record { ascending = below_all p (q ∷ qs) (λ r h. further r e h) s; same = same_itself (p ∷ q ∷ qs); long = refl })
    by_order Equal e rest = absurd (new q (head_in q qs) (val_ties p.0 q.0 e))
    by_order Greater e rest = (
      q ∷ rest.0,
      record {
        ascending = below_all q rest.0 (behind rest.0 rest.1 (turned e)) rest.1.ascending;
        same = λ r. (there rest.0 rest.1 r, back rest.0 rest.1 r);
        long = ap suc rest.1.long;
      },
    )

one_counts : (b : Bool) → b ≡ true → 1 ≤ cond b 1 0
one_counts true e = omega arith
one_counts false e = cc

-- a pair counts for its key
counts : (ps : List (Val × Val)) (p : Val × Val) (key : Val) → Contains ps p → p.0 ≡ key → 1 ≤ key_count key ps
counts [] p key h e = absurd (none_in p h)
counts (q ∷ qs) p key h e = elim (cons_cases q qs p h) [
  | inl f ↦
      let same : val_eq q.0 key ≡ true = subst (λ (k : Val). val_eq q.0 k ≡ true) (ap (λ (w : Val × Val). w.0) f ∙ e) (val_eq_equiv.refl q.0) in
      omega (arith, count_cons key q qs, one_counts (val_eq q.0 key) same)
  | inr g ↦ omega (arith, count_cons key q qs, counts qs p key g e)
]

-- where no key comes twice, none does behind the first pair, and the first key is new there
rest_once : (p : Val × Val) (ps : List (Val × Val)) → ¬ HasKeyTwice (p ∷ ps) → ¬ HasKeyTwice ps
rest_once p ps n t = n (record { key = t.key; twice = omega (arith, t.twice, count_cons t.key p ps) })

key_is_new : (p : Val × Val) (ps : List (Val × Val)) → ¬ HasKeyTwice (p ∷ ps) → (q : Val × Val) → Contains ps q → p.0 ≡ q.0 → ⊥
key_is_new p ps n q h e = n (record { key = p.0; twice = omega (arith, count_cons p.0 p ps, one_counts (val_eq p.0 p.0) (val_eq_equiv.refl p.0), counts ps q p.0 h (sym e)) })

ordered : (ps : List (Val × Val)) → ¬ HasKeyTwice ps → (ys : List (Val × Val)) × IsInOrder ps ys
ordered [] n = ([], record { ascending = none_ascends; same = same_itself []; long = refl })
ordered (p ∷ ps) n =
    let rest = ordered ps (rest_once p ps n) in
    let all = placed p rest.0 rest.1.ascending (λ q h. key_is_new p ps n q ((rest.1.same q).0 h)) in
    (all.0, record { ascending = all.1.ascending; same = behind rest.0 rest.1 all.0 all.1; long = all.1.long ∙ ap suc rest.1.long })
  where
    behind : (ys : List (Val × Val)) → IsInOrder ps ys → (zs : List (Val × Val)) → IsInOrder (p ∷ ys) zs → (q : Val × Val) → Contains zs q ↔ Contains (p ∷ ps) q
    behind ys o zs w q = (
      λ h. elim (cons_cases p ys q ((w.same q).0 h)) [
        | inl e ↦ subst (λ (r : Val × Val). Contains (p ∷ ps) r) e (head_in p ps)
        | inr g ↦ tail_in p ps q ((o.same q).0 g)
      ],
      λ h. (w.same q).1 (elim (cons_cases p ps q h) [
        | inl e ↦ subst (λ (r : Val × Val). Contains (p ∷ ys) r) e (head_in p ys)
        | inr g ↦ tail_in p ys q ((o.same q).1 g)
      ]),
    )

-- What making a function answers.

have_canonical : (ps : List (Val × Val)) → OfValues ps → HaveCanonical (pairs_of ps)
have_canonical [] f = tt
have_canonical (p ∷ ps) f = let here = f p.0 p.1 (head_in p ps) in (here.0.canonical, here.1.canonical, have_canonical ps (λ k v h. f k v (tail_in p ps (k, v) h)))

made : (pairs : List (Val × Val)) → OfValues pairs → ¬ HasKeyTwice pairs → length pairs ≤ max_members → depth (function (pairs_of pairs)) ≤ max_depth → (f : Val) × IsFunctionOf pairs f
made pairs values once few low =
    let o = ordered pairs once in
    let deep : pairs_depth (pairs_of o.0) ≤ pairs_depth (pairs_of pairs) = pair_depth_all o.0 (pairs_depth (pairs_of pairs)) (λ p h. pair_depth_in pairs p ((o.1.same p).0 h)) in (
      function (pairs_of o.0),
      record {
        valid = valid_function o.0 (keys_ascending o.0 o.1.ascending) (omega (arith, few, o.1.long)) (have_canonical o.0 (λ k v h. values k v ((o.1.same (k, v)).0 h))) (omega (arith, low, deep));
        is_function = tt;
        same = λ k v. (λ h. (o.1.same (k, v)).0 (rw entries-pairs_of at h), λ h. rw entries-pairs_of ((o.1.same (k, v)).1 h));
      },
    )

one : (pairs : List (Val × Val)) (f g : Val) → IsFunctionOf pairs f → IsFunctionOf pairs g → f ≡ g
one pairs f g o w =
    functions_by_pairs f g o.valid w.valid o.is_function w.is_function (λ k v. (λ h. (w.same k v).1 ((o.same k v).0 h), λ h. (o.same k v).1 ((w.same k v).0 h)))

-- of pairs with no key twice, those among others are no more than these
no_more : (us vs : List (Val × Val)) → ¬ HasKeyTwice us → ((w : Val × Val) → Contains us w → Contains vs w) → length us ≤ length vs
no_more [] vs n f = omega arith
no_more (u ∷ us) vs n f =
    let here = f u (head_in u us) in
    let there : IsPermutation vs (u ∷ remove vs here.0) = IsPermutation-remove vs here.0 u here.1 (sym here.2) in
    let rest = no_more us (remove vs here.0) (rest_once u us n) (λ w h.
    elim (cons_cases u (remove vs here.0) w (Contains-permutation vs (u ∷ remove vs here.0) w there (f w (tail_in u us w h)))) [
      | inl e ↦ absurd (key_is_new u us n w h (ap (λ (z : Val × Val). z.0) e))
      | inr g ↦ g
    ]) in
    omega (arith, rest, length_permutation vs (u ∷ remove vs here.0) there)

not_large : (pairs : List (Val × Val)) (f : Val) → ¬ HasKeyTwice pairs → IsFunctionOf pairs f → max_members < length pairs → ⊥
not_large pairs f once o large =
    omega (arith, large, no_more pairs (pairs_in f) once (λ p h. (o.same p.0 p.1).1 h), (keys_ordered f o.valid o.is_function).few, length-map (pairs_in f) (λ (p : Val × Val). p.0))

not_deep : (pairs : List (Val × Val)) (f : Val) → IsFunctionOf pairs f → max_depth < depth (function (pairs_of pairs)) → ⊥
not_deep pairs f o deep =
    let low : pairs_depth (pairs_of pairs) ≤ pairs_depth (pairs_of (pairs_in f)) = pair_depth_all pairs (pairs_depth (pairs_of (pairs_in f))) (λ p h. pair_depth_in (pairs_in f) p ((o.same p.0 p.1).1 h)) in
    omega (arith, deep, low, ap depth (function_is f o.is_function), o.valid.shallow)

pub function_answers : (pairs : List (Val × Val)) → FunctionAnswers pairs
function_answers pairs = record {
  made = made pairs;
  one = one pairs;
  not_large = not_large pairs;
  not_deep = not_deep pairs;
}
