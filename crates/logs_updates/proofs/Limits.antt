-- What is past the limits of values is no value.
use Rattle.std.proofs.Common.{◌≡◌, inl, inr, ℕ, ◌≤◌, ◌<◌, max, List, [], ◌∷◌, length, map, Bool, true, false, cond, ap, sym, ◌∙◌, subst, refl, arith}
use Rattle.std.specs.List.{Contains, remove}
use Rattle.std.specs.List.Sorted.{IsPermutation}
use Rattle.std.proofs.lemmas.List.{length-map}
use Rattle.std.proofs.lemmas.List.Sorted.{IsPermutation-remove, Contains-permutation, length_permutation}
use Rattle.values_core.specs.Data.{Val, model, truth, integer, string, set, function, Pairs, no_pairs, more_pairs, pairs_of, depth, entries}
use Rattle.values_core.specs.Ascending.{cons_cases, head_in, tail_in, none_in}
use Rattle.values_core.specs.Order.{val_eq}
use Rattle.values_core.specs.OrderLaws.{val_same, val_eq_equiv}
use Rattle.values_core.specs.Functions.{IsFunction, HasKeyTwice, pairs_in, HasPair, sequence_of, numbered_from}
use Rattle.values_core.specs.FunctionLaws.{key_count, count_cons, keys_ordered, entries-pairs_of, function_is}
use Rattle.values_core.specs.IsValue.{IsValue, IsCanonical, HaveCanonical, max_members}
use Rattle.values_core.proofs.FunctionLemmas.{pair_depth_in}
use Rattle.values_core.proofs.SequenceLemmas.{length-numbered}

yes_one : (b : Bool) → b ≡ true → 1 ≤ cond b 1 0
yes_one true e = omega arith
yes_one false e = cc

no_one : (b : Bool) → (b ≡ true → ⊥) → cond b 1 0 ≤ 0
no_one true f = absurd (f refl)
no_one false f = omega arith

-- a pair counts for its key
counts : (ps : List (Val × Val)) (p : Val × Val) (key : Val) → Contains ps p → p.0 ≡ key → 1 ≤ key_count key ps
counts [] p key h e = absurd (none_in p h)
counts (q ∷ qs) p key h e = elim (cons_cases q qs p h) [
  | inl f ↦
      let same : val_eq q.0 key ≡ true = subst (λ (k : Val). val_eq q.0 k ≡ true) (ap (λ (w : Val × Val). w.0) f ∙ e) (val_eq_equiv.refl q.0) in
      omega (arith, count_cons key q qs, yes_one (val_eq q.0 key) same)
  | inr g ↦ omega (arith, count_cons key q qs, counts qs p key g e)
]

-- a key that counts is that of a pair
counted_in : (ps : List (Val × Val)) (key : Val) → 1 ≤ key_count key ps → Contains (map (λ p. p.0) ps) key
counted_in [] key h = absurd (omega (arith, h))
counted_in (q ∷ qs) key h = either (counted_in qs key) (val_eq q.0 key) refl
  where
    either : (1 ≤ key_count key qs → Contains (map (λ (p : Val × Val). p.0) qs) key) → (b : Bool) → val_eq q.0 key ≡ b → Contains (q.0 ∷ map (λ (p : Val × Val). p.0) qs) key
    either ih true e = subst (λ (k : Val). Contains (q.0 ∷ map (λ (p : Val × Val). p.0) qs) k) (val_same q.0 key e) (head_in q.0 (map (λ (p : Val × Val). p.0) qs))
    either ih false e = tail_in q.0 (map (λ (p : Val × Val). p.0) qs) key (ih (omega (arith, h, count_cons key q qs, no_one (val_eq q.0 key) (λ f. let g : true ≡ false = sym f ∙ e in cc))))

-- of pairs with no key twice, those among others are no more than these
pub no_more : (us vs : List (Val × Val)) → ¬ HasKeyTwice us → ((w : Val × Val) → Contains us w → Contains vs w) → length us ≤ length vs
no_more [] vs n f = omega arith
no_more (u ∷ us) vs n f =
    let here = f u (head_in u us) in
    let there : IsPermutation vs (u ∷ remove vs here.0) = IsPermutation-remove vs here.0 u here.1 (sym here.2) in
    let rest = no_more us (remove vs here.0) (λ t. n (record { key = t.key; twice = omega (arith, t.twice, count_cons t.key u us) })) (λ w h.
    elim (cons_cases u (remove vs here.0) w (Contains-permutation vs (u ∷ remove vs here.0) w there (f w (tail_in u us w h)))) [
      | inl e ↦ absurd (n (record { key = u.0; twice = omega (arith, count_cons u.0 u us, yes_one (val_eq u.0 u.0) (val_eq_equiv.refl u.0), counts us w u.0 h (ap (λ (z : Val × Val). z.0) (sym e))) }))
      | inr g ↦ g
    ]) in
    omega (arith, rest, length_permutation vs (u ∷ remove vs here.0) there)

-- pairs among those of a function, no key twice, are no more than allowed
pub few_pairs : (ps : List (Val × Val)) (f : Val) → IsValue f → IsFunction f → ¬ HasKeyTwice ps → ((w : Val × Val) → Contains ps w → Contains (pairs_in f) w) → length ps ≤ max_members
few_pairs ps f v h once among =
    let fewer = no_more ps (pairs_in f) once among in
    omega (arith, fewer, (keys_ordered f v h).few, length-map (pairs_in f) (λ (p : Val × Val). p.0))

-- and none of its pairs is as deep as a value may be
pub shallow_pair : (f : Val) (r : Val × Val) → IsValue f → IsFunction f → Contains (pairs_in f) r → max (depth r.0) (depth r.1) ≤ 31
shallow_pair f r v h in_f = omega (arith, pair_depth_in (pairs_in f) r in_f, ap depth (function_is f h), v.shallow)

pub no_sequence_large : (vs : List Val) → IsValue (sequence_of vs) → max_members < length vs → ⊥
no_sequence_large vs valid h = omega (arith, h, (keys_ordered (sequence_of vs) valid tt).few, length-map (entries (pairs_of (numbered_from 1 vs))) (λ (p : Val × Val). p.0), ap (λ (l : List (Val × Val)). length l) (entries-pairs_of (numbered_from 1 vs)), length-numbered 1 vs)

canonical_in : (ps : Pairs) (r : Val × Val) → HaveCanonical ps → Contains (entries ps) r → IsCanonical r.1
canonical_in no_pairs r h k = absurd (none_in r k)
canonical_in (more_pairs a b ps) r h k = elim (cons_cases (a, b) (entries ps) r k) [
  | inl e ↦ subst (λ (p : Val × Val). IsCanonical p.1) e h.1
  | inr g ↦ canonical_in ps r h.2 g
]

canonical_of : (f : Val) (r : Val × Val) → IsCanonical f → IsFunction f → Contains (pairs_in f) r → IsCanonical r.1
canonical_of (function ps) r c h k = canonical_in ps r c.1 k
canonical_of (model s) r c h k = absurd h
canonical_of (truth s) r c h k = absurd h
canonical_of (integer s) r c h k = absurd h
canonical_of (string s) r c h k = absurd h
canonical_of (set s) r c h k = absurd h

-- what stands in a function is a value
pub inner_value : (f k u : Val) → IsValue f → IsFunction f → HasPair f k u → IsValue u
inner_value f k u v h p = let low = shallow_pair f (k, u) v h p in record { canonical = canonical_of f (k, u) v.canonical h p; shallow = low_second (depth k) (depth u) low }
  where
    low_second : (a b : ℕ) → max a b ≤ 31 → b ≤ 32
    low_second a b h = omega arith
