-- The users of definitions.
use Rattle.std.proofs.Common.{◌≡◌, ◌∙◌, ◌↔◌, ◌⊎◌, inl, inr, ℕ, zero, suc, ◌+◌, ◌<◌, ◌≤◌, List, [], ◌∷◌, ◌++◌, length, take, get_or, set, refl, sym, ap, subst, arith, get_or-set_same, get_or-set_other}
use Rattle.std.specs.List.{Contains}
use Rattle.std.proofs.lemmas.List.{get_or-map, get_or_past, length-map, length-set, map-append, map-set, take_all, take_more}
use Rattle.std.specs.Prelude.{Bool, IfOk, Result, Ok, Err, Vec}
use Rattle.std.specs.declared.alloc.Global.{Global}
use Rattle.std.proofs.lemmas.List.Elements.{Contains-append_left, Contains-push, Contains-push_cases}
use Rattle.base_use_order.specs.Uses.{IsWithin, Table, Uses, table_of, used_by}
use Rattle.base_use_order.proofs.Lists.{none_in, same_or_not, within_or_past}
use Rattle.base_use_order.specs.Reach.{IsLeading, IsLedTo, IsReached, is_first, is_last, is_used, is_user}

module _ (table : Table) (d u : ℕ) (small : d < length table) where
  abbrev more : Table
  more = set table d (used_by table d ++ u ∷ [])

  user_there : used_by more d ≡ used_by table d ++ u ∷ []
  user_there = get_or-set_same table d (used_by table d ++ u ∷ []) [] small

  added : (a b : ℕ) → Uses more a b → Uses table a b ⊎ ((a ≡ d) × (b ≡ u))
  added a b h = elim (same_or_not a d) [
    | inl q ↦
        let here : Contains (used_by table d ++ u ∷ []) b = subst (λ v. Contains v b) user_there (subst (λ k. Uses more k b) q h) in
        elim (Contains-push_cases (used_by table d) u b here) [
          | inl w ↦ inl (subst (λ k. Uses table k b) (sym q) w)
          | inr e ↦ inr (q, sym e)
        ]
    | inr q ↦ inl (subst (λ v. Contains v b) (get_or-set_other table d a (used_by table d ++ u ∷ []) [] q) h)
  ]

  has_more : (a b : ℕ) → Uses table a b ⊎ ((a ≡ d) × (b ≡ u)) → Uses more a b
  has_more a b (inr e) =
      let new : Contains (used_by more d) u = subst (λ v. Contains v u) (sym user_there) (Contains-push (used_by table d) u) in
      subst (λ k. Contains (used_by more k) b) (sym e.0) (subst (λ v. Contains (used_by more d) v) (sym e.1) new)
  has_more a b (inl h) = elim (same_or_not a d) [
    | inl q ↦
        let old : Contains (used_by table d) b = subst (λ k. Uses table k b) q h in
        subst (λ k. Contains (used_by more k) b) (sym q) (subst (λ v. Contains v b) (sym user_there) (Contains-append_left (used_by table d) (u ∷ []) b old))
    | inr q ↦ subst (λ v. Contains v b) (sym (get_or-set_other table d a (used_by table d ++ u ∷ []) [] q)) h
  ]

  pub user_added : (a b : ℕ) → Uses more a b ↔ (Uses table a b ⊎ ((a ≡ d) × (b ≡ u)))
  user_added a b = (added a b, has_more a b)

-- what leads to some is what is led to from them among the users
module _ (uses users : Table) (exact : (a b : ℕ) → Uses users a b ↔ Uses uses b a) (to : List ℕ) where
  led : (a : ℕ) → IsLeading uses to a → IsLedTo users to a
  led _ (is_last a h) = is_first a h
  led _ (is_user a b u l) = is_used b a (led b l) ((exact b a).1 u)

  leads : (a : ℕ) → IsLedTo users to a → IsLeading uses to a
  leads _ (is_first a h) = is_last a h
  leads _ (is_used a b l u) = is_user b a ((exact a b).0 u) (leads a l)

  pub leading_exactly : (a : ℕ) → IsLedTo users to a ↔ IsLeading uses to a
  leading_exactly a = (leads a, led a)

taken : (xs : List ℕ) (i d : ℕ) → i < length xs → d ≡ get_or xs i 0 → take (i + 1) xs ≡ take i xs ++ d ∷ []
taken xs i d l e = take_more xs i 0 l ∙ ap (λ v. take i xs ++ v ∷ []) (sym e)

-- one more of the used
pub one_more_use : (before old new : Table) (used : List ℕ) (i d u : ℕ) → i < length used → d ≡ get_or used i 0 → d < length old → new ≡ set old d (used_by old d ++ u ∷ [])
    → ((a b : ℕ) → Uses old a b ↔ (Uses before a b ⊎ (Contains (take i used) a × (b ≡ u))))
    → (a b : ℕ) → Uses new a b ↔ (Uses before a b ⊎ (Contains (take (i + 1) used) a × (b ≡ u)))
one_more_use before old new used i d u l at small e h a b =
    let step = user_added old d u small a b in
    let longer : take (i + 1) used ≡ take i used ++ d ∷ [] = taken used i d l at in (
      λ x. elim (step.0 (subst (λ v. Uses v a b) e x)) [
        | inl o ↦ elim ((h a b).0 o) [
          | inl o ↦ inl o
          | inr o ↦ inr (subst (λ v. Contains v a) (sym longer) (Contains-append_left (take i used) (d ∷ []) a o.0), o.1)
        ]
        | inr q ↦ inr (subst (λ v. Contains v a) (sym longer) (subst (λ k. Contains (take i used ++ d ∷ []) k) (sym q.0) (Contains-push (take i used) d)), q.1)
      ],
      λ x. subst (λ v. Uses v a b) (sym e) (step.1 (elim x [
        | inl o ↦ inl ((h a b).1 (inl o))
        | inr o ↦ elim (Contains-push_cases (take i used) d a (subst (λ v. Contains v a) longer o.0)) [
          | inl w ↦ inl ((h a b).1 (inr (w, o.1)))
          | inr q ↦ inr (sym q, o.1)
        ]
      ])),
    )

-- what uses something is a definition
user_within : (uses : Table) (a b : ℕ) → Uses uses a b → a < length uses
user_within uses a b h = elim (within_or_past a (length uses)) [
  | inl l ↦ l
  | inr p ↦ absurd (none_in b (subst (λ v. Contains v b) (get_or_past uses a [] p) h))
]

-- one more user
pub one_more_user : (uses old new : Table) (n : ℕ) → ((a b : ℕ) → Uses old a b ↔ ((b < n) × Uses uses b a)) → ((a b : ℕ) → Uses new a b ↔ (Uses old a b ⊎ (Contains (used_by uses n) a × (b ≡ n))))
    → (a b : ℕ) → Uses new a b ↔ ((b < n + 1) × Uses uses b a)
one_more_user uses old new n h g a b = (
  λ x. elim ((g a b).0 x) [
    | inl o ↦ let before = (h a b).0 o in let less : b < n + 1 = omega (arith, before.0) in (less, before.1)
    | inr o ↦ let less : b < n + 1 = omega (arith, o.1) in (less, subst (λ k. Uses uses k a) (sym o.1) o.0)
  ],
  λ x. elim (same_or_not b n) [
    | inl q ↦ (g a b).1 (inr (subst (λ k. Uses uses k a) q x.1, q))
    | inr q ↦ let less : b < n = omega (arith, x.0, q) in (g a b).1 (inl ((h a b).1 (less, x.1)))
  ],
)

pub all_users : (uses users : Table) (n : ℕ) → length uses ≤ n → ((a b : ℕ) → Uses users a b ↔ ((b < n) × Uses uses b a)) → (a b : ℕ) → Uses users a b ↔ Uses uses b a
all_users uses users n l h a b = (λ x. ((h a b).0 x).1, λ x. (h a b).1 (let small : b < n = omega (arith, user_within uses b a x, l) in small, x))

-- one more definition without users
pub no_more_users : (table : Table) → ((a b : ℕ) → Uses table a b → ⊥) → (a b : ℕ) → Uses (table ++ [] ∷ []) a b → ⊥
no_more_users [] h zero b u = none_in b u
no_more_users [] h (suc a) b u = none_in b u
no_more_users (t ∷ ts) h zero b u = h 0 b u
no_more_users (t ∷ ts) h (suc a) b u = no_more_users ts (λ c d. h (suc c) d) a b u

-- a user is added to the list of a definition
pub with_user : (items : List (Vec ℕ Global)) (d u : ℕ) (old new : Vec ℕ Global) → d < length items → old ≡ get_or items d old → new.items ≡ old.items ++ u ∷ []
    → table_of (set items d new) ≡ set (table_of items) d (used_by (table_of items) d ++ u ∷ [])
with_user items d u old new l o n =
    let there : used_by (table_of items) d ≡ old.items = get_or-map (λ (w : Vec ℕ Global). w.items) items d old [] l ∙ ap (λ (w : Vec ℕ Global). w.items) (sym o) in
    map-set (λ (w : Vec ℕ Global). w.items) items d new ∙ ap (λ x. set (table_of items) d x) (n ∙ ap (λ x. x ++ u ∷ []) (sym there))

-- all of the used
pub all_uses : (before now : Table) (used : List ℕ) (i u : ℕ) → length used ≤ i → ((a b : ℕ) → Uses now a b ↔ (Uses before a b ⊎ (Contains (take i used) a × (b ≡ u))))
    → (a b : ℕ) → Uses now a b ↔ (Uses before a b ⊎ (Contains used a × (b ≡ u)))
all_uses before now used i u l h = subst (λ v. (a b : ℕ) → Uses now a b ↔ (Uses before a b ⊎ (Contains v a × (b ≡ u)))) (take_all i used l) h

-- one more definition that has no users
pub no_users_more : (items new : List (Vec ℕ Global)) (v : Vec ℕ Global) → v.items ≡ [] → new ≡ items ++ v ∷ [] → ((a b : ℕ) → Uses (table_of items) a b → ⊥) → (a b : ℕ) → Uses (table_of new) a b → ⊥
no_users_more items new v e n h a b u =
    let whole : table_of new ≡ table_of items ++ [] ∷ [] =
    ap table_of n ∙ map-append (λ (w : Vec ℕ Global). w.items) items (v ∷ []) ∙ ap (λ x. table_of items ++ x ∷ []) e in
    no_more_users (table_of items) h a b (subst (λ t. Uses t a b) whole u)

-- a list stays as long as it was
pub as_long : (items new : List (Vec ℕ Global)) (d : ℕ) (used : List ℕ) → table_of new ≡ set (table_of items) d used → length new ≡ length items
as_long items new d used e =
    sym (length-map new (λ (w : Vec ℕ Global). w.items)) ∙ ap length e ∙ length-set (table_of items) d used ∙ length-map items (λ (w : Vec ℕ Global). w.items)

pub table_length : (items : List (Vec ℕ Global)) → length (table_of items) ≡ length items
table_length items = length-map items (λ (w : Vec ℕ Global). w.items)

read_same : (xs : List ℕ) (k d e : ℕ) → k < length xs → get_or xs k e ≡ get_or xs k d
read_same [] k d e l = absurd (omega arith)
read_same (x ∷ xs) zero d e l = refl
read_same (x ∷ xs) (suc k) d e l = read_same xs k d e (omega arith)

-- only definitions are used
pub used_within : (table : Table) (a k d : ℕ) → IsWithin table → k < length (used_by table a) → get_or (used_by table a) k d < length table
used_within table a k d inside l = inside a (get_or (used_by table a) k d) (k, l, read_same (used_by table a) k d (get_or (used_by table a) k d) l)

-- only definitions are users
pub users_within : (uses users : Table) → length users ≡ length uses → ((a b : ℕ) → Uses users a b ↔ Uses uses b a) → IsWithin users
users_within uses users e exact a b h = let small : b < length uses = user_within uses b a ((exact a b).0 h) in omega (arith, small, e)

pub if_leading : {E : Type 0} (uses users : Table) (to : List ℕ) (r : Result (Vec Bool Global) E) → ((a b : ℕ) → Uses users a b ↔ Uses uses b a)
    → IfOk r (λ v. (a : ℕ) → IsReached v.items a ↔ IsLedTo users to a) → IfOk r (λ v. (a : ℕ) → IsReached v.items a ↔ IsLeading uses to a)
if_leading uses users to (Ok v) exact h =
    λ a. let same = leading_exactly uses users exact to a in
    (λ x. same.0 ((h a).0 x), λ x. (h a).1 (same.1 x))
if_leading uses users to (Err e) exact h = tt
