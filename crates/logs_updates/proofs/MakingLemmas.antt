-- Sets and functions made of lists, by what meets a fact.
use Rattle.std.proofs.Common.{◌≡◌, ◌↔◌, ◌⊎◌, inl, inr, ℕ, suc, ◌≤◌, ◌<◌, ◌+◌, max, List, [], ◌∷◌, ◌++◌, length, filter, drop, get_or, Bool, true, false, not, cond, Option, Some, None, Result, Ok, Err, IfOk, ap, sym, ◌∙◌, subst, refl, arith, true≢false}
use Rattle.std.specs.List.{Contains}
use Rattle.std.proofs.Math.Seq.{drop-cons}
use Rattle.std.proofs.lemmas.List.Elements.{filter-append}
use Rattle.std.specs.declared.alloc.AllocError.{AllocError}
use Rattle.values_core.specs.Data.{Val, function, pairs_of, pairs_depth, depth}
use Rattle.values_core.specs.Ascending.{cons_cases, head_in, tail_in, none_in}
use Rattle.values_core.specs.IsValue.{IsValue, max_members, max_depth}
use Rattle.values_core.specs.Order.{val_eq}
use Rattle.values_core.specs.OrderLaws.{val_same, val_eq_equiv}
use Rattle.values_core.specs.Functions.{InDomain, HasKeyTwice, pairs_in}
use Rattle.values_core.specs.FunctionLaws.{key_count, count_cons, at_most_one, pairs_ordered, function_is}
use Rattle.values_core.specs.Sets.{IsSet, IsSetOf, Member, items_of}
use Rattle.values_core.specs.SetOperations.{IsSetWith}
use Rattle.values_core.proofs.FunctionLemmas.{pair_depth_in}
use Rattle.logs_updates.specs.Changes.{Does, Finds, IsMappingOf}
use Rattle.logs_updates.specs.declared.update.Op.TheVariants.{Drop, Add, Remove}
use Rattle.logs_updates.proofs.Limits.{few_pairs}

pub if_found : (r : Result (Option Val) AllocError) (P Q : Val → Type 0) → ((v : Val) → P v ↔ Q v) → IfOk r (Finds P) → IfOk r (Finds Q)
if_found (Ok (Some v)) P Q same h = (same v).0 h
if_found (Ok None) P Q same h = λ v q. h v ((same v).1 q)
if_found (Err e) P Q same h = tt

module _ {X : Type 0} where
  append_cases : (xs ys : List X) (v : X) → Contains (xs ++ ys) v → Contains xs v ⊎ Contains ys v
  append_cases [] ys v h = inr h
  append_cases (x ∷ xs) ys v h = elim (cons_cases x (xs ++ ys) v h) [
    | inl e ↦ inl (subst (λ (w : X). Contains (x ∷ xs) w) e (head_in x xs))
    | inr g ↦ elim (append_cases xs ys v g) [ inl a ↦ inl (tail_in x xs v a) | inr b ↦ inr b ]
  ]

  append_left : (xs ys : List X) (v : X) → Contains xs v → Contains (xs ++ ys) v
  append_left [] ys v h = absurd (none_in v h)
  append_left (x ∷ xs) ys v h = elim (cons_cases x xs v h) [
    | inl e ↦ subst (λ (w : X). Contains (x ∷ (xs ++ ys)) w) e (head_in x (xs ++ ys))
    | inr g ↦ tail_in x (xs ++ ys) v (append_left xs ys v g)
  ]

  append_right : (xs ys : List X) (v : X) → Contains ys v → Contains (xs ++ ys) v
  append_right [] ys v h = h
  append_right (x ∷ xs) ys v h = tail_in x (xs ++ ys) v (append_right xs ys v h)

  -- what a filter keeps
  kept_in : (p : X → Bool) (xs : List X) (v : X) → Contains (filter p xs) v → Contains xs v × (p v ≡ true)
  kept_in p [] v h = absurd (none_in v h)
  kept_in p (x ∷ xs) v h = either (p x) refl (kept_in p xs v)
    where
      either : (b : Bool) → p x ≡ b → (Contains (filter p xs) v → Contains xs v × (p v ≡ true)) → Contains (x ∷ xs) v × (p v ≡ true)
      either true e ih = elim (cons_cases x (filter p xs) v (subst (λ (c : Bool). Contains (cond c (x ∷ filter p xs) (filter p xs)) v) e h)) [
        | inl f ↦ (subst (λ (w : X). Contains (x ∷ xs) w) f (head_in x xs), subst (λ (w : X). p w ≡ true) f e)
        | inr g ↦ let r = ih g in (tail_in x xs v r.0, r.1)
      ]
      either false e ih = let r = ih (subst (λ (c : Bool). Contains (cond c (x ∷ filter p xs) (filter p xs)) v) e h) in (tail_in x xs v r.0, r.1)

  in_kept : (p : X → Bool) (xs : List X) (v : X) → Contains xs v → p v ≡ true → Contains (filter p xs) v
  in_kept p [] v h e = absurd (none_in v h)
  in_kept p (x ∷ xs) v h e = either (p x) refl (in_kept p xs v)
    where
      either : (b : Bool) → p x ≡ b → (Contains xs v → p v ≡ true → Contains (filter p xs) v) → Contains (filter p (x ∷ xs)) v
      either true f ih = subst (λ (c : Bool). Contains (cond c (x ∷ filter p xs) (filter p xs)) v) (sym f) (elim (cons_cases x xs v h) [
        | inl g ↦ subst (λ (w : X). Contains (x ∷ filter p xs) w) g (head_in x (filter p xs))
        | inr g ↦ tail_in x (filter p xs) v (ih g e)
      ])
      either false f ih = subst (λ (c : Bool). Contains (cond c (x ∷ filter p xs) (filter p xs)) v) (sym f) (elim (cons_cases x xs v h) [
        | inl g ↦ let t : p x ≡ true = subst (λ (w : X). p w ≡ true) (sym g) e in absurd (true≢false (sym t ∙ f))
        | inr g ↦ ih g e
      ])

-- a value that differs
other : (a b : Val) → not (val_eq a b) ≡ true → ¬ (a ≡ b)
other a b h e = let same : val_eq a b ≡ true = subst (λ (w : Val). val_eq a w ≡ true) e (val_eq_equiv.refl a) in true≢false (sym h ∙ ap not same)

differs : (a b : Val) → ¬ (a ≡ b) → not (val_eq a b) ≡ true
differs a b n = either (val_eq a b) refl
  where
    either : (c : Bool) → val_eq a b ≡ c → not c ≡ true
    either true e = absurd (n (val_same a b e))
    either false e = refl

set_of_with : (xs : List Val) (P : Val → Type 0) → ((x : Val) → Contains xs x ↔ P x) → (s : Val) → IsSetOf xs s ↔ IsSetWith P s
set_of_with xs P same s = (
  λ m. record { valid = m.valid; is_set = m.is_set; same = λ x. (λ h. (same x).0 ((m.same x).0 h), λ h. (m.same x).1 ((same x).1 h)) },
  λ m. record { valid = m.valid; is_set = m.is_set; same = λ x. (λ h. (same x).1 ((m.same x).0 h), λ h. (m.same x).1 ((same x).0 h)) },
)

one_is : (w x : Val) → Contains (w ∷ []) x → x ≡ w
one_is w x h = elim (cons_cases w [] x h) [ inl e ↦ sym e | inr g ↦ absurd (none_in x g) ]

-- the set of the members and one more
pub add_is : (s w r : Val) → IsSet s → IsSetOf (items_of s ++ w ∷ []) r ↔ Does (Add w) s r
add_is s w r h =
    let with_one = set_of_with (items_of s ++ w ∷ []) (λ x. Member x s ⊎ (x ≡ w)) (λ x. (
      λ k. elim (append_cases (items_of s) (w ∷ []) x k) [ inl a ↦ inl a | inr b ↦ inr (one_is w x b) ],
      λ k. elim k [
        | inl a ↦ append_left (items_of s) (w ∷ []) x a
        | inr e ↦ append_right (items_of s) (w ∷ []) x (subst (λ (v : Val). Contains (w ∷ []) v) (sym e) (head_in w []))
      ],
    )) r in
    (λ m. (h, with_one.0 m), λ d. with_one.1 d.1)

-- the set of the other members
pub remove_is : (s w r : Val) → Member w s → IsSetOf (filter (λ m. not (val_eq m w)) (items_of s)) r ↔ Does (Remove w) s r
remove_is s w r h =
    let p : Val → Bool = λ m. not (val_eq m w) in
    let without = set_of_with (filter p (items_of s)) (λ x. Member x s × ¬ (x ≡ w)) (λ x. (
      λ k. let a = kept_in p (items_of s) x k in (a.0, other x w a.1),
      λ k. in_kept p (items_of s) x k.0 (differs x w k.1),
    )) r in
    (λ m. (h, without.0 m), λ d. without.1 d.1)

-- a filter keeps no key that comes twice
count_kept : (p : Val × Val → Bool) (ps : List (Val × Val)) (key : Val) → key_count key (filter p ps) ≤ key_count key ps
count_kept p [] key = omega arith
count_kept p (q ∷ qs) key = either (p q) (count_kept p qs key)
  where
    either : (b : Bool) → key_count key (filter p qs) ≤ key_count key qs → key_count key (cond b (q ∷ filter p qs) (filter p qs)) ≤ key_count key (q ∷ qs)
    either true ih = omega (arith, ih, count_cons key q qs, count_cons key q (filter p qs))
    either false ih = omega (arith, ih, count_cons key q qs)

-- the function with the pairs of the other keys
pub drop_is : (f k r : Val) → IsValue f → InDomain k f → IsMappingOf (filter (λ p. not (val_eq p.0 k)) (pairs_in f)) r ↔ Does (Drop k) f r
drop_is f k r valid h =
    let p : Val × Val → Bool = λ q. not (val_eq q.0 k) in
    let once : ¬ HasKeyTwice (filter p (pairs_in f)) = λ t. omega (arith, t.twice, count_kept p (pairs_in f) t.key, at_most_one (pairs_in f) t.key (pairs_ordered f valid)) in (
      λ m. (
        h,
        record {
          valid = m.1.valid;
          is_function = m.1.is_function;
          same = λ key x. (
            λ g. let a = kept_in p (pairs_in f) (key, x) ((m.1.same key x).0 g) in (other key k a.1, a.0),
            λ g. (m.1.same key x).1 (in_kept p (pairs_in f) (key, x) g.1 (differs key k g.0)),
          );
        },
      ),
      λ d. (
        once,
        record {
          valid = d.1.valid;
          is_function = d.1.is_function;
          same = λ key x. (
            λ g. let a = (d.1.same key x).0 g in in_kept p (pairs_in f) (key, x) a.1 (differs key k a.0),
            λ g. let a = kept_in p (pairs_in f) (key, x) g in (d.1.same key x).1 (other key k a.1, a.0),
          );
        },
      ),
    )

-- the pairs of a function are few, and none too deep
mapping_shallow : (ps : List (Val × Val)) (f : Val) → IsMappingOf ps f → depth (function (pairs_of ps)) ≤ max_depth
mapping_shallow ps f m =
    let low = pairs_low ps (λ (r : Val × Val) h. pair_depth_in (pairs_in f) r ((m.1.same r.0 r.1).1 h)) (ap depth (function_is f m.1.is_function)) m.1.valid.shallow in
    omega (arith, low)
  where
    pairs_low : (qs : List (Val × Val)) → ((r : Val × Val) → Contains qs r → max (depth r.0) (depth r.1) ≤ pairs_depth (pairs_of (pairs_in f))) → depth f ≡ suc (pairs_depth (pairs_of (pairs_in f))) → depth f ≤ 32 → pairs_depth (pairs_of qs) ≤ 31
    pairs_low [] g e h = omega arith
    pairs_low (q ∷ qs) g e h =
        let here = g q (head_in q qs) in
        let rest = pairs_low qs (λ r k. g r (tail_in q qs r k)) e h in
        omega (arith, here, rest, e, h)

pub no_mapping_large : (ps : List (Val × Val)) → max_members < length ps → (f : Val) → ¬ IsMappingOf ps f
no_mapping_large ps h f m = omega (arith, h, few_pairs ps f m.1.valid m.1.is_function m.0 (λ w k. (m.1.same w.0 w.1).1 k))

pub no_mapping_deep : (ps : List (Val × Val)) → max_depth < depth (function (pairs_of ps)) → (f : Val) → ¬ IsMappingOf ps f
no_mapping_deep ps h f m = omega (arith, h, mapping_shallow ps f m)

one_more : (n : ℕ) → suc n ≡ n + 1
one_more n = omega arith

-- what a filter keeps of what is left, one by one
pub filter_rest : (p : Val → Bool) (xs : List Val) (i : ℕ) (x : Val) → i < length xs → x ≡ get_or xs i x → filter p (drop i xs) ≡ filter p (x ∷ []) ++ filter p (drop (i + 1) xs)
filter_rest p xs i x h e =
    let here : drop i xs ≡ (x ∷ []) ++ drop (suc i) xs = drop-cons xs i x h ∙ ap (λ (y : Val). y ∷ drop (suc i) xs) (sym e) in
    subst (λ (n : ℕ). filter p (drop i xs) ≡ filter p (x ∷ []) ++ filter p (drop n xs)) (one_more i) (ap (filter p) here ∙ filter-append p (x ∷ []) (drop (suc i) xs))
