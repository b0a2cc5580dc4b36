-- Two sets with the same members are equal, and what follows.
use Rattle.std.specs.Prelude.{◌≡◌, ◌↔◌, ℕ, zero, suc, ◌≤◌, List, [], ◌∷◌, length, refl, Contains}
use Rattle.std.proofs.Common.{ap, sym, ◌∙◌, arith}
use Rattle.values_core.specs.Data.{Val, model, truth, integer, string, set, function, Vals, no_vals, more_vals, vals_of, members, depth, vals_depth}
use Rattle.values_core.specs.Order.{val_cmp}
use Rattle.values_core.specs.OrderLaws.{val_total}
use Rattle.values_core.specs.Ascending.{head_in, tail_in, ascending_unique}
use Rattle.values_core.specs.IsValue.{IsValue, IsOrdered}
use Rattle.values_core.specs.Sets.{Member, IsAscendingOf, IsSet, items_of, count_of, IsSetOf, IsTooLarge, IsTooDeep, SetAnswers}

pub vals_of-members : (vs : Vals) → vals_of (members vs) ≡ vs
vals_of-members no_vals = refl
vals_of-members (more_vals v vs) = ap (more_vals v) (vals_of-members vs)

pub members-vals_of : (vs : List Val) → members (vals_of vs) ≡ vs
members-vals_of [] = refl
members-vals_of (v ∷ vs) = ap (λ us. v ∷ us) (members-vals_of vs)

-- a set is the tree of its members
pub set_is : (s : Val) → IsSet s → s ≡ set (vals_of (items_of s))
set_is (set vs) h = ap set (sym (vals_of-members vs))
set_is (model s) h = absurd h
set_is (truth s) h = absurd h
set_is (integer s) h = absurd h
set_is (string s) h = absurd h
set_is (function s) h = absurd h

-- the members of a set ascend and are few
pub ordered : (s : Val) → IsValue s → IsSet s → IsOrdered (items_of s)
ordered (set vs) p h = p.canonical.0
ordered (model s) p h = absurd h
ordered (truth s) p h = absurd h
ordered (integer s) p h = absurd h
ordered (string s) p h = absurd h
ordered (function s) p h = absurd h

-- two sets with the same members are equal
pub same_members : (s t : Val) → IsValue s → IsValue t → IsSet s → IsSet t → ((v : Val) → Member v s ↔ Member v t) → s ≡ t
same_members s t p q h k same =
    set_is s h ∙ ap (λ ks. set (vals_of ks)) (ascending_unique val_cmp val_total (items_of s) (items_of t) (ordered s p h).ascending (ordered t q k).ascending same) ∙ sym (set_is t k)

-- a set of xs has the members ks, where they are the values xs in order
pub keys_are : (xs ks : List Val) (s : Val) → IsSetOf xs s → IsAscendingOf xs ks → ks ≡ items_of s
keys_are xs ks s o a =
    ascending_unique val_cmp val_total ks (items_of s) a.ascending (ordered s o.valid o.is_set).ascending
    (λ v. (λ h. (o.same v).1 ((a.same v).0 h), λ h. (a.same v).1 ((o.same v).0 h)))

pub not_large : (xs : List Val) (s : Val) → IsSetOf xs s → IsTooLarge xs → ⊥
not_large xs s o t = omega (arith, ap (length {A = Val}) (keys_are xs t.keys s o t.lists), (ordered s o.valid o.is_set).few, t.large)

pub not_deep : (xs : List Val) (s : Val) → IsSetOf xs s → IsTooDeep xs → ⊥
not_deep xs s o t =
    omega (arith, t.deep, o.valid.shallow, ap depth (set_is s o.is_set), ap (λ ks. depth (set (vals_of ks))) (keys_are xs t.keys s o t.lists))

pub not_large_and_deep : (xs : List Val) → IsTooLarge xs → IsTooDeep xs → ⊥
not_large_and_deep xs l d =
    let e : l.keys ≡ d.keys = ascending_unique val_cmp val_total l.keys d.keys l.lists.ascending d.lists.ascending
    (λ v. (λ h. (d.lists.same v).1 ((l.lists.same v).0 h), λ h. (l.lists.same v).1 ((d.lists.same v).0 h))) in
    omega (arith, ap (length {A = Val}) e, l.large, d.few)

pub set_answers : (xs : List Val) → SetAnswers xs
set_answers xs = record {
  not_large = not_large xs;
  not_deep = not_deep xs;
  not_both = not_large_and_deep xs;
}

-- a member of a list is no deeper than the list
pub depth_in : (vs : List Val) (v : Val) → Contains vs v → depth v ≤ vals_depth (vals_of vs)
depth_in [] v h = absurd (omega (arith, h.1))
depth_in (u ∷ us) v (zero, l, e) = let d : depth u ≡ depth v = ap depth e in omega arith
depth_in (u ∷ us) v (suc k, l, e) = let d = depth_in us v (k, omega arith, e) in omega (arith, d)

-- a list is no deeper than what bounds its members
pub depth_all : (vs : List Val) (n : ℕ) → ((v : Val) → Contains vs v → depth v ≤ n) → vals_depth (vals_of vs) ≤ n
depth_all [] n f = omega arith
depth_all (v ∷ vs) n f = let d = depth_all vs n (λ w h. f w (tail_in v vs w h)) in omega (arith, d, f v (head_in v vs))

pub depth_items : (s : Val) → IsSet s → depth s ≡ suc (vals_depth (vals_of (items_of s)))
depth_items s h = ap depth (set_is s h)

-- a member of a value is less deep than a value may be
pub member_shallow : (s v : Val) → IsValue s → Member v s → depth v ≤ 31
member_shallow (set vs) v p h = omega (arith, p.shallow, depth_in (members vs) v h, ap vals_depth (vals_of-members vs))
member_shallow (model s) v p h = absurd (omega (arith, h.1))
member_shallow (truth s) v p h = absurd (omega (arith, h.1))
member_shallow (integer s) v p h = absurd (omega (arith, h.1))
member_shallow (string s) v p h = absurd (omega (arith, h.1))
member_shallow (function s) v p h = absurd (omega (arith, h.1))

-- a loop over the count passes all members
pub length-items_of : (s : Val) → length (items_of s) ≤ count_of s
length-items_of (set vs) = omega arith
length-items_of _ = omega arith
