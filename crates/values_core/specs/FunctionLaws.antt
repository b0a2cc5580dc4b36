-- Two functions with the same pairs are equal, and what follows.
use Rattle.std.specs.Prelude.{◌≡◌, ℕ, ◌+◌, ◌≤◌, Bool, true, false, cond, List, [], ◌∷◌, map, refl, Contains}
use Rattle.std.proofs.Common.{ap, sym, ◌∙◌, subst, inl, inr, arith}
use Rattle.std.specs.declared.cmp.Ordering.{Ordering}
use Rattle.std.specs.declared.cmp.Ordering.TheVariants.{Less}
use Rattle.std.specs.Cmp.{IsTotalOrder}
use Rattle.std.specs.List.{AllByRecursion, count_by}
use Rattle.std.specs.List.Sorted.{IsStrictlySortedBy}
use Rattle.std.proofs.lemmas.List.Sums.{sum_by-cons}
use Rattle.std.proofs.lemmas.Map.Keys.{sorted_tail}
use Rattle.values_core.specs.Data.{Val, model, truth, integer, string, set, function, Pairs, no_pairs, more_pairs, pairs_of, entries}
use Rattle.values_core.specs.Order.{val_cmp, val_eq}
use Rattle.values_core.specs.OrderLaws.{val_total, val_same}
use Rattle.values_core.specs.Ascending.{cons_cases, head_in, tail_in, none_in, below, not_itself, ascending_unique}
use Rattle.values_core.specs.IsValue.{IsValue, IsOrdered}
use Rattle.values_core.specs.Functions.{HasKeyTwice, IsFunction, pairs_in, keys_in, FunctionsByPairs, OneValueAtKey, DomainByPairs}

pub pairs_of-entries : (ps : Pairs) → pairs_of (entries ps) ≡ ps
pairs_of-entries no_pairs = refl
pairs_of-entries (more_pairs k v ps) = ap (more_pairs k v) (pairs_of-entries ps)

pub entries-pairs_of : (ps : List (Val × Val)) → entries (pairs_of ps) ≡ ps
entries-pairs_of [] = refl
entries-pairs_of (p ∷ ps) = ap (λ qs. p ∷ qs) (entries-pairs_of ps)

-- a function is the tree of its pairs
pub function_is : (f : Val) → IsFunction f → f ≡ function (pairs_of (pairs_in f))
function_is (function ps) h = ap function (sym (pairs_of-entries ps))
function_is (model s) h = absurd h
function_is (truth s) h = absurd h
function_is (integer s) h = absurd h
function_is (string s) h = absurd h
function_is (set s) h = absurd h

-- the keys of a value ascend and are few
pub keys_ordered : (f : Val) → IsValue f → IsFunction f → IsOrdered (keys_in f)
keys_ordered (function ps) p h = p.canonical.0
keys_ordered (model s) p h = absurd h
keys_ordered (truth s) p h = absurd h
keys_ordered (integer s) p h = absurd h
keys_ordered (string s) p h = absurd h
keys_ordered (set s) p h = absurd h

-- pairs by their keys alone
abbrev pub key_cmp : Val × Val → Val × Val → Ordering
key_cmp p q = val_cmp p.0 q.0

pub key_total : IsTotalOrder key_cmp
key_total = record {
  antisymm = λ p q. val_total.antisymm p.0 q.0;
  trans = λ p q r. val_total.trans p.0 q.0 r.0;
  congr = λ p q r. val_total.congr p.0 q.0 r.0;
}

all_keys : (k : Val) (ps : List (Val × Val)) → AllByRecursion (λ j. val_cmp k j ≡ Less) (map (λ p. p.0) ps) → AllByRecursion (λ q. val_cmp k q.0 ≡ Less) ps
all_keys k [] h = tt
all_keys k (p ∷ ps) h = (h.0, all_keys k ps h.1)

-- pairs whose keys ascend, ascend by key
pub pairs_ascending : (ps : List (Val × Val)) → IsStrictlySortedBy val_cmp (map (λ p. p.0) ps) → IsStrictlySortedBy key_cmp ps
unfolding IsStrictlySortedBy
pairs_ascending [] s = tt
pairs_ascending (p ∷ ps) s = (all_keys p.0 ps s.0, pairs_ascending ps s.1)

all_pairs : (k : Val) (ps : List (Val × Val)) → AllByRecursion (λ q. val_cmp k q.0 ≡ Less) ps → AllByRecursion (λ j. val_cmp k j ≡ Less) (map (λ p. p.0) ps)
all_pairs k [] h = tt
all_pairs k (p ∷ ps) h = (h.0, all_pairs k ps h.1)

pub keys_ascending : (ps : List (Val × Val)) → IsStrictlySortedBy key_cmp ps → IsStrictlySortedBy val_cmp (map (λ p. p.0) ps)
unfolding IsStrictlySortedBy
keys_ascending [] s = tt
keys_ascending (p ∷ ps) s = (all_pairs p.0 ps s.0, keys_ascending ps s.1)

-- of pairs that ascend by key, two with one key are one
pub one_pair : (ps : List (Val × Val)) (p q : Val × Val) → IsStrictlySortedBy key_cmp ps → p.0 ≡ q.0 → Contains ps p → Contains ps q → p ≡ q
one_pair [] p q s e h g = absurd (none_in p h)
one_pair (r ∷ rs) p q s e h g =
    elim (cons_cases r rs p h) [
      | inl a ↦ elim (cons_cases r rs q g) [
        | inl b ↦ sym a ∙ b
        | inr b ↦ absurd (not_itself val_cmp val_total r.0 q.0 (ap (λ (w : Val × Val). w.0) a ∙ e) (below key_cmp key_total r rs q s b))
      ]
      | inr a ↦ elim (cons_cases r rs q g) [
        | inl b ↦ absurd (not_itself val_cmp val_total r.0 p.0 (ap (λ (w : Val × Val). w.0) b ∙ sym e) (below key_cmp key_total r rs p s a))
        | inr b ↦ one_pair rs p q (sorted_tail key_cmp r rs s) e a b
      ]
    ]

no_keys : IsStrictlySortedBy val_cmp []
unfolding IsStrictlySortedBy
no_keys = tt

-- the pairs of a value ascend by key
pub pairs_ordered : (f : Val) → IsValue f → IsStrictlySortedBy key_cmp (pairs_in f)
pairs_ordered (function ps) p = pairs_ascending (entries ps) p.canonical.0.ascending
pairs_ordered (model s) p = pairs_ascending [] no_keys
pairs_ordered (truth s) p = pairs_ascending [] no_keys
pairs_ordered (integer s) p = pairs_ascending [] no_keys
pairs_ordered (string s) p = pairs_ascending [] no_keys
pairs_ordered (set s) p = pairs_ascending [] no_keys

pub functions_by_pairs : FunctionsByPairs
functions_by_pairs f g p q h k same =
    function_is f h ∙ ap (λ ps. function (pairs_of ps)) (ascending_unique key_cmp key_total (pairs_in f) (pairs_in g) (pairs_ordered f p) (pairs_ordered g q) (λ r. same r.0 r.1)) ∙ sym (function_is g k)

pub one_value_at_key : OneValueAtKey
one_value_at_key f key v w p h g = ap (λ (r : Val × Val). r.1) (one_pair (pairs_in f) (key, v) (key, w) (pairs_ordered f p) refl h g)

-- a key of the pairs is that of one of them, and the other way round
pub key_in : (ps : List (Val × Val)) (key : Val) → Contains (map (λ p. p.0) ps) key → (v : Val) × Contains ps (key, v)
key_in [] key h = absurd (none_in key h)
key_in (p ∷ ps) key h =
    elim (cons_cases p.0 (map (λ r. r.0) ps) key h) [
      | inl e ↦ (p.1, subst (λ (k : Val). Contains (p ∷ ps) (k, p.1)) e (head_in p ps))
      | inr g ↦ let found = key_in ps key g in (found.0, tail_in p ps (key, found.0) found.1)
    ]

pub in_keys : (ps : List (Val × Val)) (r : Val × Val) → Contains ps r → Contains (map (λ p. p.0) ps) r.0
in_keys [] r h = absurd (none_in r h)
in_keys (p ∷ ps) r h =
    elim (cons_cases p ps r h) [
      | inl e ↦ subst (λ (w : Val × Val). Contains (p.0 ∷ map (λ q. q.0) ps) w.0) e (head_in p.0 (map (λ q. q.0) ps))
      | inr g ↦ tail_in p.0 (map (λ q. q.0) ps) r.0 (in_keys ps r g)
    ]

pub domain_by_pairs : DomainByPairs
domain_by_pairs f key = (key_in (pairs_in f) key, λ h. in_keys (pairs_in f) (key, h.0) h.1)

-- how many of the pairs have the key
abbrev pub key_count : Val → List (Val × Val) → ℕ
key_count key ps = count_by (λ (p : Val × Val). val_eq p.0 key) ps

pub count_cons : (key : Val) (p : Val × Val) (ps : List (Val × Val)) → key_count key (p ∷ ps) ≡ cond (val_eq p.0 key) 1 0 + key_count key ps
count_cons key p ps = sum_by-cons (λ (q : Val × Val). cond (val_eq q.0 key) 1 0) p ps

-- no key comes twice where the keys ascend
pub none_alike : (ps : List (Val × Val)) (key : Val) → ((p : Val × Val) → Contains ps p → p.0 ≡ key → ⊥) → key_count key ps ≡ 0
none_alike [] key h = refl
none_alike (p ∷ ps) key h =
    let rest = none_alike ps key (λ q g e. h q (tail_in p ps q g) e) in
    omega (arith, count_cons key p ps, none (val_eq p.0 key) (λ e. h p (head_in p ps) (val_same p.0 key e)), rest)
  where
    none : (b : Bool) → (b ≡ true → ⊥) → cond b 1 0 ≤ 0
    none true f = absurd (f refl)
    none false f = omega arith

pub at_most_one : (ps : List (Val × Val)) (key : Val) → IsStrictlySortedBy key_cmp ps → key_count key ps ≤ 1
unfolding IsStrictlySortedBy
at_most_one [] key s = omega arith
at_most_one (p ∷ ps) key s = either (at_most_one ps key s.1) (val_eq p.0 key) refl
  where
    most_one : (b : Bool) → cond b 1 0 ≤ 1
    most_one true = omega arith
    most_one false = omega arith

    none : (b : Bool) → b ≡ false → cond b 1 0 ≤ 0
    none true e = cc
    none false e = omega arith

    either : key_count key ps ≤ 1 → (b : Bool) → val_eq p.0 key ≡ b → key_count key (p ∷ ps) ≤ 1
    either few true e =
        let k : p.0 ≡ key = val_same p.0 key e in
        let rest : key_count key ps ≡ 0 = none_alike ps key (λ q g f. not_itself val_cmp val_total p.0 q.0 (k ∙ sym f) (below key_cmp key_total p ps q s g)) in
        omega (arith, count_cons key p ps, rest, most_one (val_eq p.0 key))
    either few false e = omega (arith, count_cons key p ps, few, none (val_eq p.0 key) e)

-- where the keys ascend no key comes twice
pub ascending_once : (ps : List (Val × Val)) → IsStrictlySortedBy val_cmp (map (λ p. p.0) ps) → ¬ HasKeyTwice ps
ascending_once ps s t = omega (arith, t.twice, at_most_one ps t.key (pairs_ascending ps s))
