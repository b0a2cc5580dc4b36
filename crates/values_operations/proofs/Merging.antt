-- What the walk along two ascending lists keeps.
use Rattle.std.proofs.Common.{◌≡◌, ◌↔◌, ◌⊎◌, inl, inr, List, [], ◌∷◌, Bool, true, false, cond, ◌||◌, ap, sym, ◌∙◌, subst, refl}
use Rattle.std.specs.declared.cmp.Ordering.{Ordering}
use Rattle.std.specs.declared.cmp.Ordering.TheVariants.{Less, Equal, Greater}
use Rattle.std.specs.Ordering.{match_ordering, ordering_reverse}
use Rattle.std.specs.List.{Contains}
use Rattle.std.specs.List.Sorted.{IsStrictlySortedBy}
use Rattle.std.proofs.lemmas.Map.Keys.{sorted_tail}
use Rattle.values_core.specs.Data.{Val}
use Rattle.values_core.specs.Ascending.{cons_cases, head_in, tail_in, none_in, below, not_itself}
use Rattle.values_core.specs.Order.{val_cmp, val_eq}
use Rattle.values_core.specs.OrderLaws.{val_total, val_ties, val_same, val_eq_equiv}
use Rattle.values_operations.specs.Among.{among as has}
use Rattle.values_operations.specs.Walk.{when, beside, merged}
use Rattle.values_operations.specs.declared.sets.Keep.{Keep}

has_head : (b c : Bool) → b ≡ true → cond b true c ≡ true
has_head true c e = refl
has_head false c e = cc

has_tail : (b c : Bool) → c ≡ true → cond b true c ≡ true
has_tail true c e = refl
has_tail false c e = e

pub contains_has : (xs : List Val) (v : Val) → Contains xs v → has xs v ≡ true
contains_has [] v h = absurd (none_in v h)
contains_has (x ∷ xs) v h = elim (cons_cases x xs v h) [
  | inl e ↦ has_head (val_eq x v) (has xs v) (subst (λ (w : Val). val_eq x w ≡ true) e (val_eq_equiv.refl x))
  | inr g ↦ has_tail (val_eq x v) (has xs v) (contains_has xs v g)
]

pub has_contains : (xs : List Val) (v : Val) → has xs v ≡ true → Contains xs v
has_contains [] v h = cc
has_contains (x ∷ xs) v h = either (has_contains xs v) (val_eq x v) refl h
  where
    either : (has xs v ≡ true → Contains xs v) → (b : Bool) → val_eq x v ≡ b → cond b true (has xs v) ≡ true → Contains (x ∷ xs) v
    either ih true e g = subst (λ (w : Val). Contains (x ∷ xs) w) (val_same x v e) (head_in x xs)
    either ih false e g = tail_in x xs v (ih g)

-- what is kept of a value by where it stands
abbrev pub chosen : Keep → Bool → Bool → Bool
chosen k true true = k.both
chosen k true false = k.left
chosen k false true = k.right
chosen k false false = false

or_false : (b : Bool) → (b || false) ≡ b
or_false true = refl
or_false false = refl

when_has : (b : Bool) (x : Val) (zs : List Val) (v : Val) → has (when b x zs) v ≡ cond (val_eq x v) (b || has zs v) (has zs v)
when_has true x zs v = refl
when_has false x zs v = either (val_eq x v)
  where
    either : (c : Bool) → has zs v ≡ cond c (has zs v) (has zs v)
    either true = refl
    either false = refl

left_bool : (k : Keep) (t q r : Bool) → (t ≡ true → q ≡ false) → (t ≡ true → r ≡ false) → cond t (k.left || chosen k q r) (chosen k q r) ≡ chosen k (cond t true q) r
left_bool k false q r f g = refl
left_bool k true q r f g = rw (f refl, g refl) (or_false k.left)

both_bool : (k : Keep) (t u q r : Bool) → u ≡ t → (t ≡ true → q ≡ false) → (t ≡ true → r ≡ false) → cond t (k.both || chosen k q r) (chosen k q r) ≡ chosen k (cond t true q) (cond u true r)
both_bool k false u q r e f g = rw e refl
both_bool k true u q r e f g = rw (e, f refl, g refl) (or_false k.both)

right_bool : (k : Keep) (u q r : Bool) → (u ≡ true → q ≡ false) → (u ≡ true → r ≡ false) → cond u (k.right || chosen k q r) (chosen k q r) ≡ chosen k q (cond u true r)
right_bool k false q r f g = refl
right_bool k true q r f g = rw (f refl, g refl) (or_false k.right)

-- a value below all of a list is not among them
absent : (x : Val) (ks : List Val) → ((w : Val) → Contains ks w → val_cmp x w ≡ Less) → (v : Val) → val_eq x v ≡ true → has ks v ≡ false
absent x ks f v e = either (has ks v) refl
  where
    either : (b : Bool) → has ks v ≡ b → b ≡ false
    either true h = absurd (not_itself val_cmp val_total x v (val_same x v e) (f v (has_contains ks v h)))
    either false h = refl

-- below the first of an ascending list is below all
below_all : (x y : Val) (ys : List Val) → val_cmp x y ≡ Less → IsStrictlySortedBy val_cmp (y ∷ ys) → (w : Val) → Contains (y ∷ ys) w → val_cmp x w ≡ Less
below_all x y ys l s w h = elim (cons_cases y ys w h) [
  | inl e ↦ subst (λ (z : Val). val_cmp x z ≡ Less) e l
  | inr g ↦ val_total.trans x y w l (below val_cmp val_total y ys w s g)
]

inner : (k : Keep) (x : Val) (xs : List Val) → ((zs : List Val) → IsStrictlySortedBy val_cmp zs → (v : Val) → has (merged k xs zs) v ≡ chosen k (has xs v) (has zs v))
    → IsStrictlySortedBy val_cmp (x ∷ xs) → (ys : List Val) → IsStrictlySortedBy val_cmp ys → (v : Val) → has (beside k x (merged k xs) ys) v ≡ chosen k (has (x ∷ xs) v) (has ys v)
inner k x xs ih s [] t v =
    when_has k.left x (merged k xs []) v ∙ rw (ih [] t v) (left_bool k (val_eq x v) (has xs v) false (λ e. absent x xs (λ w. below val_cmp val_total x xs w s) v e) (λ e. refl))
inner k x xs ih s (y ∷ ys) t v = by_order (inner k x xs ih s ys (sorted_tail val_cmp y ys t) v) (val_cmp x y) refl
  where
    by_order : has (beside k x (merged k xs) ys) v ≡ chosen k (has (x ∷ xs) v) (has ys v) → (o : Ordering) → val_cmp x y ≡ o
        → has (match_ordering o (when k.left x (merged k xs (y ∷ ys))) (when k.both x (merged k xs ys)) (when k.right y (beside k x (merged k xs) ys))) v ≡ chosen k (has (x ∷ xs) v) (has (y ∷ ys) v)
    by_order further Less e =
        when_has k.left x (merged k xs (y ∷ ys)) v ∙ rw (ih (y ∷ ys) t v)
        (left_bool k (val_eq x v) (has xs v) (has (y ∷ ys) v) (absent x xs (λ w. below val_cmp val_total x xs w s) v) (absent x (y ∷ ys) (below_all x y ys e t) v))
    by_order further Equal e =
        let same : x ≡ y = val_ties x y e in
        when_has k.both x (merged k xs ys) v ∙ rw (ih ys (sorted_tail val_cmp y ys t) v)
        (both_bool k (val_eq x v) (val_eq y v) (has xs v) (has ys v) (ap (λ w. val_eq w v) (sym same)) (absent x xs (λ w. below val_cmp val_total x xs w s) v)
        (λ f. absent y ys (λ w. below val_cmp val_total y ys w t) v (ap (λ w. val_eq w v) (sym same) ∙ f)))
    by_order further Greater e =
        let turned : val_cmp y x ≡ Less = val_total.antisymm y x ∙ ap ordering_reverse e in
        when_has k.right y (beside k x (merged k xs) ys) v ∙ rw further
        (right_bool k (val_eq y v) (has (x ∷ xs) v) (has ys v) (absent y (x ∷ xs) (below_all y x xs turned s) v) (absent y ys (λ w. below val_cmp val_total y ys w t) v))

-- of two ascending lists, those values are kept that are chosen by where they stand
pub has_merged : (k : Keep) (xs ys : List Val) → IsStrictlySortedBy val_cmp xs → IsStrictlySortedBy val_cmp ys → (v : Val) → has (merged k xs ys) v ≡ chosen k (has xs v) (has ys v)
has_merged k [] ys s t v = either k.right (has ys v) refl
  where
    either : (b c : Bool) → has ys v ≡ c → has (cond b ys []) v ≡ chosen (record { left = k.left; both = k.both; right = b }) false c
    either true true e = e
    either true false e = e
    either false true e = refl
    either false false e = refl
has_merged k (x ∷ xs) ys s t v = inner k x xs (λ zs u w. has_merged k xs zs (sorted_tail val_cmp x xs s) u w) s ys t v

pub in_union : (xs ys : List Val) → IsStrictlySortedBy val_cmp xs → IsStrictlySortedBy val_cmp ys → (v : Val)
    → Contains (merged (record { left = true; both = true; right = true }) xs ys) v ↔ (Contains xs v ⊎ Contains ys v)
in_union xs ys s t v = (there, back)
  where
    some : (q r : Bool) → has xs v ≡ q → has ys v ≡ r → chosen (record { left = true; both = true; right = true }) q r ≡ true → Contains xs v ⊎ Contains ys v
    some true r a b e = inl (has_contains xs v a)
    some false true a b e = inr (has_contains ys v b)
    some false false a b e = cc

    there : Contains (merged (record { left = true; both = true; right = true }) xs ys) v → Contains xs v ⊎ Contains ys v
    there h = some (has xs v) (has ys v) refl refl (sym (has_merged (record { left = true; both = true; right = true }) xs ys s t v) ∙ contains_has (merged (record { left = true; both = true; right = true }) xs ys) v h)

    all_left : (q r : Bool) → q ≡ true → chosen (record { left = true; both = true; right = true }) q r ≡ true
    all_left true true e = refl
    all_left true false e = refl
    all_left false r e = cc

    all_right : (q r : Bool) → r ≡ true → chosen (record { left = true; both = true; right = true }) q r ≡ true
    all_right true true e = refl
    all_right false true e = refl
    all_right q false e = cc

    back : Contains xs v ⊎ Contains ys v → Contains (merged (record { left = true; both = true; right = true }) xs ys) v
    back (inl h) = has_contains (merged (record { left = true; both = true; right = true }) xs ys) v (has_merged (record { left = true; both = true; right = true }) xs ys s t v ∙ all_left (has xs v) (has ys v) (contains_has xs v h))
    back (inr h) = has_contains (merged (record { left = true; both = true; right = true }) xs ys) v (has_merged (record { left = true; both = true; right = true }) xs ys s t v ∙ all_right (has xs v) (has ys v) (contains_has ys v h))

pub in_intersection : (xs ys : List Val) → IsStrictlySortedBy val_cmp xs → IsStrictlySortedBy val_cmp ys → (v : Val)
    → Contains (merged (record { left = false; both = true; right = false }) xs ys) v ↔ (Contains xs v × Contains ys v)
in_intersection xs ys s t v = (there, back)
  where
    some : (q r : Bool) → has xs v ≡ q → has ys v ≡ r → chosen (record { left = false; both = true; right = false }) q r ≡ true → Contains xs v × Contains ys v
    some true true a b e = (has_contains xs v a, has_contains ys v b)
    some true false a b e = cc
    some false true a b e = cc
    some false false a b e = cc

    there : Contains (merged (record { left = false; both = true; right = false }) xs ys) v → Contains xs v × Contains ys v
    there h = some (has xs v) (has ys v) refl refl (sym (has_merged (record { left = false; both = true; right = false }) xs ys s t v) ∙ contains_has (merged (record { left = false; both = true; right = false }) xs ys) v h)

    back : Contains xs v × Contains ys v → Contains (merged (record { left = false; both = true; right = false }) xs ys) v
    back h = has_contains (merged (record { left = false; both = true; right = false }) xs ys) v (has_merged (record { left = false; both = true; right = false }) xs ys s t v ∙ rw (contains_has xs v h.0, contains_has ys v h.1) refl)

pub in_difference : (xs ys : List Val) → IsStrictlySortedBy val_cmp xs → IsStrictlySortedBy val_cmp ys → (v : Val)
    → Contains (merged (record { left = true; both = false; right = false }) xs ys) v ↔ (Contains xs v × ¬ Contains ys v)
in_difference xs ys s t v = (there, back)
  where
    out : (r : Bool) → has ys v ≡ r → r ≡ false → Contains ys v → ⊥
    out r a b h = let e : true ≡ false = sym (contains_has ys v h) ∙ a ∙ b in cc

    some : (q r : Bool) → has xs v ≡ q → has ys v ≡ r → chosen (record { left = true; both = false; right = false }) q r ≡ true → Contains xs v × ¬ Contains ys v
    some true true a b e = cc
    some true false a b e = (has_contains xs v a, out false b refl)
    some false true a b e = cc
    some false false a b e = cc

    there : Contains (merged (record { left = true; both = false; right = false }) xs ys) v → Contains xs v × ¬ Contains ys v
    there h = some (has xs v) (has ys v) refl refl (sym (has_merged (record { left = true; both = false; right = false }) xs ys s t v) ∙ contains_has (merged (record { left = true; both = false; right = false }) xs ys) v h)

    missing : (r : Bool) → has ys v ≡ r → ¬ Contains ys v → r ≡ false
    missing true a n = absurd (n (has_contains ys v a))
    missing false a n = refl

    back : Contains xs v × ¬ Contains ys v → Contains (merged (record { left = true; both = false; right = false }) xs ys) v
    back h = has_contains (merged (record { left = true; both = false; right = false }) xs ys) v (has_merged (record { left = true; both = false; right = false }) xs ys s t v ∙ rw (contains_has xs v h.0, missing (has ys v) refl h.1) refl)
