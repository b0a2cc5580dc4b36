-- From a list of values to the set of those that meet a condition.
use Rattle.std.proofs.Common.{◌≡◌, ◌↔◌, ◌⊎◌, inl, inr, ℕ, suc, ◌≤◌, max, List, [], ◌∷◌, length, Result, Ok, Err, ap, sym, subst, refl, arith}
use Rattle.std.specs.declared.cmp.Ordering.{Ordering}
use Rattle.std.specs.Cmp.{IsTotalOrder}
use Rattle.std.specs.List.{Contains}
use Rattle.std.specs.List.{remove}
use Rattle.std.specs.List.Sorted.{IsStrictlySortedBy, IsPermutation}
use Rattle.std.proofs.lemmas.List.Sorted.{IsPermutation-remove, Contains-permutation, length_permutation}
use Rattle.std.proofs.lemmas.Map.Keys.{sorted_tail}
use Rattle.values_core.specs.Data.{Val, model, truth, integer, string, set, function, vals_of, vals_depth, depth}
use Rattle.values_core.specs.Ascending.{cons_cases, head_in, tail_in, below, not_itself}
use Rattle.values_core.specs.Order.{val_cmp}
use Rattle.values_core.specs.OrderLaws.{val_total}
use Rattle.values_core.specs.Sets.{IsSet, IsSetOf, MakesSet}
use Rattle.values_core.specs.SetOperations.{GivesSet, OnSets, OnSet, AreDifferent}
use Rattle.values_core.specs.declared.value.ValueFault.{ValueFault}
use Rattle.values_core.specs.declared.value.ValueFault.TheVariants.{KeyTwice, TooLarge as LargeValue, TooDeep as DeepValue, NoMemory as NoRoom}
use Rattle.values_core.specs.declared.fault.EvalKind.TheVariants.{NotBoolean, NotInteger, NotSet, NotFunction, NotSequence, OutsideDomain, Overflow, BadDivisor, BadPower, NoChoice, NoCase, EmptySequence, BadRange, TooLarge, TooDeep, Nested, NotFinite}
use Rattle.values_core.specs.declared.fault.OpFault.{OpFault}
use Rattle.values_core.specs.declared.fault.OpFault.TheVariants.{Refused, NoMemory}
use Rattle.values_core.specs.Refusals.{refusal_of}

-- a value in a list as deep as the list
pub deepest_in : (vs : List Val) (n : ℕ) → suc n ≤ vals_depth (vals_of vs) → (v : Val) × Contains vs v × (suc n ≤ depth v)
deepest_in [] n h = absurd (omega arith)
deepest_in (v ∷ vs) n h = elim (either (depth v) (vals_depth (vals_of vs)) n h) [
  | inl l ↦ (v, head_in v vs, l)
  | inr l ↦ let w = deepest_in vs n l in (w.0, tail_in v vs w.0 w.1, w.2)
]
  where
    either : (a b n : ℕ) → suc n ≤ max a b → (suc n ≤ a) ⊎ (suc n ≤ b)
    either a b n h = grind arith

-- in an ascending list nothing stands twice
pub ascending_different : {X : Type 0} (R : X → X → Ordering) (o : IsTotalOrder R) (xs : List X) → IsStrictlySortedBy R xs → AreDifferent xs
ascending_different R o [] s = tt
ascending_different R o (x ∷ xs) s = (λ h. not_itself R o x x refl (below R o x xs x s h), ascending_different R o xs (sorted_tail R x xs s))

-- a list in which nothing stands twice, among another, is no longer
pub no_longer : {X : Type 0} (us vs : List X) → AreDifferent us → ((w : X) → Contains us w → Contains vs w) → length us ≤ length vs
no_longer [] vs n f = omega arith
no_longer (u ∷ us) vs n f =
    let here = f u (head_in u us) in
    let there : IsPermutation vs (u ∷ remove vs here.0) = IsPermutation-remove vs here.0 u here.1 (sym here.2) in
    let rest = no_longer us (remove vs here.0) n.1 (λ w h.
    elim (cons_cases u (remove vs here.0) w (Contains-permutation vs (u ∷ remove vs here.0) w there (f w (tail_in u us w h)))) [
      | inl e ↦ absurd (n.0 (subst (λ z. Contains us z) (sym e) h))
      | inr g ↦ g
    ]) in
    omega (arith, rest, length_permutation vs (u ∷ remove vs here.0) there)

pub gives_set : (xs : List Val) (r : Result Val ValueFault) (s : Val) → r ≡ Ok s → MakesSet xs r → GivesSet (Contains xs) (Ok s)
gives_set xs r s e m = let o : IsSetOf xs s = subst (MakesSet xs) e m in record { valid = o.valid; is_set = o.is_set; same = o.same }

pub refuses_set : (xs : List Val) (f : ValueFault) → MakesSet xs (Err f) → GivesSet (Contains xs) (Err (refusal_of f))
refuses_set xs KeyTwice m = absurd m
refuses_set xs LargeValue m = (refl, record { some = m.keys; different = ascending_different val_cmp val_total m.keys m.lists.ascending; each = λ v h. (m.lists.same v).0 h; many = m.large })
refuses_set xs DeepValue m =
    let deep = deepest_in m.keys 31 (omega (arith, m.deep)) in (
      refl,
      λ a. omega (arith, m.few, a.many, no_longer a.some m.keys a.different (λ w h. (m.lists.same w).1 (a.each w h))),
      record { one = deep.0; meets = (m.lists.same deep.0).0 deep.1; deep = deep.2 },
    )
refuses_set xs NoRoom m = tt

-- the same set under another name of its condition
pub gives_as : (P Q : Val → Type 0) (r : Result Val OpFault) → ((v : Val) → P v ↔ Q v) → GivesSet P r → GivesSet Q r
gives_as P Q (Ok s) same g = record { valid = g.valid; is_set = g.is_set; same = λ v. (λ h. (same v).0 ((g.same v).0 h), λ h. (g.same v).1 ((same v).1 h)) }
gives_as P Q (Err NoMemory) same g = tt
gives_as P Q (Err (Refused TooLarge n)) same g = (g.0, record { some = g.1.some; different = g.1.different; each = λ v h. (same v).0 (g.1.each v h); many = g.1.many })
gives_as P Q (Err (Refused TooDeep n)) same g = (
  g.0,
  λ a. g.1 (record { some = a.some; different = a.different; each = λ v h. (same v).1 (a.each v h); many = a.many }),
  record { one = g.2.one; meets = (same g.2.one).0 g.2.meets; deep = g.2.deep },
)
gives_as P Q (Err (Refused NotBoolean n)) same g = absurd g
gives_as P Q (Err (Refused NotInteger n)) same g = absurd g
gives_as P Q (Err (Refused NotSet n)) same g = absurd g
gives_as P Q (Err (Refused NotFunction n)) same g = absurd g
gives_as P Q (Err (Refused NotSequence n)) same g = absurd g
gives_as P Q (Err (Refused OutsideDomain n)) same g = absurd g
gives_as P Q (Err (Refused Overflow n)) same g = absurd g
gives_as P Q (Err (Refused BadDivisor n)) same g = absurd g
gives_as P Q (Err (Refused BadPower n)) same g = absurd g
gives_as P Q (Err (Refused NoChoice n)) same g = absurd g
gives_as P Q (Err (Refused NoCase n)) same g = absurd g
gives_as P Q (Err (Refused EmptySequence n)) same g = absurd g
gives_as P Q (Err (Refused BadRange n)) same g = absurd g
gives_as P Q (Err (Refused Nested n)) same g = absurd g
gives_as P Q (Err (Refused NotFinite n)) same g = absurd g

-- the operands are sets, or which is not
pub on_sets : (a b : Val) (Q : Result Val OpFault → Type 0) (r : Result Val OpFault) → IsSet a → IsSet b → Q r → OnSets a b Q r
on_sets (set us) (set vs) Q r h k q = q
on_sets (model s) b Q r h k q = absurd h
on_sets (truth s) b Q r h k q = absurd h
on_sets (integer s) b Q r h k q = absurd h
on_sets (string s) b Q r h k q = absurd h
on_sets (function s) b Q r h k q = absurd h
on_sets (set us) (model s) Q r h k q = absurd k
on_sets (set us) (truth s) Q r h k q = absurd k
on_sets (set us) (integer s) Q r h k q = absurd k
on_sets (set us) (string s) Q r h k q = absurd k
on_sets (set us) (function s) Q r h k q = absurd k

pub first_no_set : (a b : Val) (Q : Result Val OpFault → Type 0) (e : OpFault) → e ≡ Refused NotSet 0 → ¬ IsSet a → OnSets a b Q (Err e)
first_no_set (set us) b Q e p h = absurd (h tt)
first_no_set (model s) b Q e p h = ap Err p
first_no_set (truth s) b Q e p h = ap Err p
first_no_set (integer s) b Q e p h = ap Err p
first_no_set (string s) b Q e p h = ap Err p
first_no_set (function s) b Q e p h = ap Err p

pub second_no_set : (a b : Val) (Q : Result Val OpFault → Type 0) (e : OpFault) → e ≡ Refused NotSet 1 → IsSet a → ¬ IsSet b → OnSets a b Q (Err e)
second_no_set (set us) (set vs) Q e p h k = absurd (k tt)
second_no_set (set us) (model s) Q e p h k = ap Err p
second_no_set (set us) (truth s) Q e p h k = ap Err p
second_no_set (set us) (integer s) Q e p h k = ap Err p
second_no_set (set us) (string s) Q e p h k = ap Err p
second_no_set (set us) (function s) Q e p h k = ap Err p
second_no_set (model s) b Q e p h k = absurd h
second_no_set (truth s) b Q e p h k = absurd h
second_no_set (integer s) b Q e p h k = absurd h
second_no_set (string s) b Q e p h k = absurd h
second_no_set (function s) b Q e p h k = absurd h

pub on_set : (a : Val) (Q : Result Val OpFault → Type 0) (r : Result Val OpFault) → IsSet a → Q r → OnSet a Q r
on_set (set us) Q r h q = q
on_set (model s) Q r h q = absurd h
on_set (truth s) Q r h q = absurd h
on_set (integer s) Q r h q = absurd h
on_set (string s) Q r h q = absurd h
on_set (function s) Q r h q = absurd h
