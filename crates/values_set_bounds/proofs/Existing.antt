-- The set of the values of a list, and of those that have a number.
use Rattle.std.proofs.Common.{◌≡◌, ◌↔◌, ◌⊎◌, inl, inr, ℕ, zero, suc, ◌<◌, ◌≤◌, List, [], ◌∷◌, length, ap, sym, ◌∙◌, subst, refl, arith}
use Rattle.std.specs.declared.cmp.Ordering.{Ordering}
use Rattle.std.specs.declared.cmp.Ordering.TheVariants.{Less, Equal, Greater}
use Rattle.std.specs.Ordering.{match_ordering, ordering_reverse}
use Rattle.std.specs.List.{Contains}
use Rattle.std.specs.List.Sorted.{IsStrictlySortedBy}
use Rattle.std.proofs.lemmas.Map.Keys.{sorted_tail}
use Rattle.values_core.specs.Data.{Val, set, function, model, truth, integer, string, vals_of, members, depth, pairs_of, pairs_depth, entries}
use Rattle.values_core.specs.Ascending.{cons_cases, head_in, tail_in, none_in, below}
use Rattle.values_core.specs.Order.{val_cmp}
use Rattle.values_core.specs.OrderLaws.{val_total, val_ties}
use Rattle.values_core.specs.IsValue.{IsValue, IsCanonical, AreCanonical, max_members}
use Rattle.values_core.specs.Functions.{IsFunction, pairs_in}
use Rattle.values_core.specs.FunctionLaws.{pairs_of-entries}
use Rattle.values_core.specs.Sets.{IsSet, Member, items_of, count_of}
use Rattle.values_core.specs.SetLaws.{members-vals_of, depth_all, depth_in, depth_items}
use Rattle.values_core.specs.SetOperations.{IsSetWith}
use Rattle.values_operations.specs.Choices.{AreNumbered}
use Rattle.values_operations.proofs.Made.{sorted_cons, sorted_none}

-- a value put at its place among values that ascend
abbrev put : Val → List Val → List Val
put v [] = v ∷ []
put v (w ∷ ws) = match_ordering (val_cmp v w) (v ∷ w ∷ ws) (w ∷ ws) (w ∷ put v ws)

in_put : (v : Val) (ws : List Val) (u : Val) → Contains (put v ws) u → (v ≡ u) ⊎ Contains ws u
in_put v [] u h = cons_cases v [] u h
in_put v (w ∷ ws) u h = by_order (in_put v ws u) (val_cmp v w) h
  where
    by_order : (Contains (put v ws) u → (v ≡ u) ⊎ Contains ws u) → (o : Ordering) → Contains (match_ordering o (v ∷ w ∷ ws) (w ∷ ws) (w ∷ put v ws)) u → (v ≡ u) ⊎ Contains (w ∷ ws) u
    by_order ih Less g = cons_cases v (w ∷ ws) u g
    by_order ih Equal g = inr g
    by_order ih Greater g = elim (cons_cases w (put v ws) u g) [
      | inl e ↦ inr (subst (λ (z : Val). Contains (w ∷ ws) z) e (head_in w ws))
      | inr k ↦ elim (ih k) [
        | inl e ↦ inl e
        | inr l ↦ inr (tail_in w ws u l)
      ]
    ]

put_in : (v : Val) (ws : List Val) (u : Val) → (v ≡ u) ⊎ Contains ws u → Contains (put v ws) u
put_in v [] u (inl e) = subst (λ (z : Val). Contains (v ∷ []) z) e (head_in v [])
put_in v [] u (inr h) = absurd (none_in u h)
put_in v (w ∷ ws) u h = by_order (put_in v ws u) (val_cmp v w) refl
  where
    by_order : ((v ≡ u) ⊎ Contains ws u → Contains (put v ws) u) → (o : Ordering) → val_cmp v w ≡ o → Contains (match_ordering o (v ∷ w ∷ ws) (w ∷ ws) (w ∷ put v ws)) u
    by_order ih Less e = elim h [
      | inl f ↦ subst (λ (z : Val). Contains (v ∷ w ∷ ws) z) f (head_in v (w ∷ ws))
      | inr g ↦ tail_in v (w ∷ ws) u g
    ]
    by_order ih Equal e = elim h [
      | inl f ↦ subst (λ (z : Val). Contains (w ∷ ws) z) (sym (val_ties v w e) ∙ f) (head_in w ws)
      | inr g ↦ g
    ]
    by_order ih Greater e = elim h [
      | inl f ↦ tail_in w (put v ws) u (ih (inl f))
      | inr g ↦ elim (cons_cases w ws u g) [
        | inl f ↦ subst (λ (z : Val). Contains (w ∷ put v ws) z) f (head_in w (put v ws))
        | inr k ↦ tail_in w (put v ws) u (ih (inr k))
      ]
    ]

put_ascending : (v : Val) (ws : List Val) → IsStrictlySortedBy val_cmp ws → IsStrictlySortedBy val_cmp (put v ws)
put_ascending v [] s = sorted_cons val_cmp v [] (λ u h. absurd (none_in u h)) s
put_ascending v (w ∷ ws) s = by_order (put_ascending v ws (sorted_tail val_cmp w ws s)) (val_cmp v w) refl
  where
    by_order : IsStrictlySortedBy val_cmp (put v ws) → (o : Ordering) → val_cmp v w ≡ o → IsStrictlySortedBy val_cmp (match_ordering o (v ∷ w ∷ ws) (w ∷ ws) (w ∷ put v ws))
    by_order ih Less e = sorted_cons val_cmp v (w ∷ ws) (λ u h. elim (cons_cases w ws u h) [
      | inl f ↦ subst (λ (z : Val). val_cmp v z ≡ Less) f e
      | inr g ↦ val_total.trans v w u e (below val_cmp val_total w ws u s g)
    ]) s
    by_order ih Equal e = s
    by_order ih Greater e =
        let turned : val_cmp w v ≡ Less = val_total.antisymm w v ∙ ap ordering_reverse e in
        sorted_cons val_cmp w (put v ws) (λ u h. elim (in_put v ws u h) [
          | inl f ↦ subst (λ (z : Val). val_cmp w z ≡ Less) f turned
          | inr g ↦ below val_cmp val_total w ws u s g
        ]) ih

length-put : (v : Val) (ws : List Val) → length (put v ws) ≤ suc (length ws)
length-put v [] = omega arith
length-put v (w ∷ ws) = by_order (length-put v ws) (val_cmp v w)
  where
    by_order : length (put v ws) ≤ suc (length ws) → (o : Ordering) → length (match_ordering o (v ∷ w ∷ ws) (w ∷ ws) (w ∷ put v ws)) ≤ suc (suc (length ws))
    by_order ih Less = omega arith
    by_order ih Equal = omega arith
    by_order ih Greater = omega (arith, ih)

-- the values of a list, each once and in ascending order
abbrev sorted : List Val → List Val
sorted [] = []
sorted (v ∷ vs) = put v (sorted vs)

in_sorted : (vs : List Val) (u : Val) → Contains (sorted vs) u → Contains vs u
in_sorted [] u h = h
in_sorted (v ∷ vs) u h = elim (in_put v (sorted vs) u h) [
  | inl e ↦ subst (λ (z : Val). Contains (v ∷ vs) z) e (head_in v vs)
  | inr g ↦ tail_in v vs u (in_sorted vs u g)
]

sorted_in : (vs : List Val) (u : Val) → Contains vs u → Contains (sorted vs) u
sorted_in [] u h = h
sorted_in (v ∷ vs) u h = put_in v (sorted vs) u (elim (cons_cases v vs u h) [
  | inl e ↦ inl e
  | inr g ↦ inr (sorted_in vs u g)
])

sorted_ascending : (vs : List Val) → IsStrictlySortedBy val_cmp (sorted vs)
sorted_ascending [] = sorted_none val_cmp
sorted_ascending (v ∷ vs) = put_ascending v (sorted vs) (sorted_ascending vs)

length-sorted : (vs : List Val) → length (sorted vs) ≤ length vs
length-sorted [] = omega arith
length-sorted (v ∷ vs) = omega (arith, length-put v (sorted vs), length-sorted vs)

are_canonical : (vs : List Val) → ((v : Val) → Contains vs v → IsCanonical v) → AreCanonical (vals_of vs)
are_canonical [] f = tt
are_canonical (v ∷ vs) f = (f v (head_in v vs), are_canonical vs (λ w h. f w (tail_in v vs w h)))

-- There is a set of just the values that meet P, with so many members and so deep at most.
pub record IsThere (P : Val → Type 0) (count levels : ℕ) : Type 0 where
  pub one : Val
  pub meets : IsSetWith P one
  pub few : count_of one ≤ count
  pub shallow : depth one ≤ levels

-- the values that meet P are those of a list
pub listed_there : (P : Val → Type 0) (vs : List Val) (n l : ℕ) → ((v : Val) → Contains vs v ↔ P v) → length vs ≤ n → n ≤ max_members → l ≤ 31 → ((v : Val) → P v → IsValue v × (depth v ≤ l)) → IsThere P n (suc l)
listed_there P vs n l same few fit low each =
    let ks = sorted vs in
    let back : members (vals_of (sorted vs)) ≡ sorted vs = members-vals_of (sorted vs) in
    let many : length (members (vals_of (sorted vs))) ≡ length (sorted vs) = ap (λ (us : List Val). length us) back in
    let inner = λ (v : Val) (h : Contains (sorted vs) v). each v ((same v).0 (in_sorted vs v h)) in
    let flat = depth_all (sorted vs) l (λ v h. (inner v h).1) in
    record {
      one = set (vals_of (sorted vs));
      meets = record {
        valid = record {
          canonical = (
            record {
              ascending = subst (λ (us : List Val). IsStrictlySortedBy val_cmp us) (sym back) (sorted_ascending vs);
              few = omega (arith, many, few, fit, length-sorted vs);
            },
            are_canonical (sorted vs) (λ v h. (inner v h).0.canonical),
          );
          shallow = omega (arith, flat, low);
        };
        is_set = tt;
        same = λ v. subst (λ (us : List Val). Contains us v ↔ P v) (sym back) (λ h. (same v).0 (in_sorted vs v h), λ p. sorted_in vs v ((same v).1 p));
      };
      few = omega (arith, many, few, length-sorted vs);
      shallow = omega (arith, flat);
    }

-- a set, and a function, are one deeper than what bounds their parts
pub set_depth : (s : Val) (n : ℕ) → IsSet s → ((v : Val) → Member v s → depth v ≤ n) → depth s ≤ suc n
set_depth s n h f = omega (arith, depth_items s h, depth_all (items_of s) n f)

pub member_depth : (s v : Val) → IsSet s → Member v s → depth v < depth s
member_depth s v h m = omega (arith, depth_items s h, depth_in (items_of s) v m)

pairs_low : (ps : List (Val × Val)) (n : ℕ) → ((r : Val × Val) → Contains ps r → (depth r.0 ≤ n) × (depth r.1 ≤ n)) → pairs_depth (pairs_of ps) ≤ n
pairs_low [] n f = omega arith
pairs_low (p ∷ ps) n f =
    let w = f p (head_in p ps) in
    let rest = pairs_low ps n (λ r h. f r (tail_in p ps r h)) in
    omega (arith, w.0, w.1, rest)

pub function_depth : (f : Val) (n : ℕ) → IsFunction f → ((r : Val × Val) → Contains (pairs_in f) r → (depth r.0 ≤ n) × (depth r.1 ≤ n)) → depth f ≤ suc n
function_depth (function ps) n h f = omega (arith, pairs_low (entries ps) n f, ap pairs_depth (pairs_of-entries ps))
function_depth (model s) n h f = absurd h
function_depth (truth s) n h f = absurd h
function_depth (integer s) n h f = absurd h
function_depth (string s) n h f = absurd h
function_depth (set s) n h f = absurd h

below_or : (k m : ℕ) → k < suc m → (k < m) ⊎ (k ≡ m)
below_or k m h = grind arith

-- a value for each number, as a list
pub numbered_list : (Q : ℕ → Val → Type 0) (n : ℕ) → ((k : ℕ) → k < n → (v : Val) × Q k v) → (vs : List Val) × (length vs ≡ n) × AreNumbered Q n vs
numbered_list Q zero h = ([], refl, record { each = λ v g. absurd (none_in v g); all = λ k l. absurd (omega (arith, l)) })
numbered_list Q (suc m) h =
    let w = numbered_list Q m (λ k l. h k (omega (arith, l))) in
    let u = h m (omega arith) in (
      u.0 ∷ w.0,
      ap suc w.1,
      record {
        each = λ v g. elim (cons_cases u.0 w.0 v g) [
          | inl e ↦ (m, omega arith, subst (λ (z : Val). Q m z) e u.1)
          | inr i ↦ let k = w.2.each v i in (k.0, omega (arith, k.1), k.2)
        ];
        all = λ k l. elim (below_or k m l) [
          | inl i ↦ let v = w.2.all k i in (v.0, tail_in u.0 w.0 v.0 v.1, v.2)
          | inr e ↦ (u.0, head_in u.0 w.0, subst (λ j. Q j u.0) (sym e) u.1)
        ];
      },
    )
