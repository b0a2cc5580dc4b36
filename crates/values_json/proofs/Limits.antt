-- What is within the limits of values is not past them.
use Rattle.std.proofs.Common.{◌≡◌, ◌⊎◌, inl, inr, ℕ, suc, ◌≤◌, ◌<◌, max, List, [], ◌∷◌, length, map, Bool, true, false, cond, ap, sym, ◌∙◌, subst, refl, arith}
use Rattle.std.specs.List.{Contains, remove}
use Rattle.std.specs.List.Sorted.{IsPermutation}
use Rattle.std.proofs.lemmas.List.{length-map}
use Rattle.std.proofs.lemmas.List.Sorted.{IsPermutation-remove, Contains-permutation, length_permutation}
use Rattle.values_core.specs.Data.{Val, function, pairs_of, pairs_depth, depth, entries}
use Rattle.values_core.specs.Ascending.{cons_cases, head_in, tail_in, none_in}
use Rattle.values_core.specs.Order.{val_eq}
use Rattle.values_core.specs.OrderLaws.{val_same, val_eq_equiv}
use Rattle.values_core.specs.Functions.{HasKeyTwice, pairs_in, sequence_of, numbered_from}
use Rattle.values_core.specs.FunctionLaws.{key_count, count_cons, keys_ordered, entries-pairs_of, function_is}
use Rattle.values_core.specs.IsValue.{IsValue, max_members, max_depth}
use Rattle.values_core.proofs.FunctionLemmas.{pair_depth_in}
use Rattle.values_core.proofs.SequenceLemmas.{length-numbered}
use Rattle.values_json.specs.Reads.{IsMappingOf, IsSequenceOf}

-- a pair in a list as deep as the list
deepest_pair : (ps : List (Val × Val)) (n : ℕ) → suc n ≤ pairs_depth (pairs_of ps) → (p : Val × Val) × Contains ps p × (suc n ≤ max (depth p.0) (depth p.1))
deepest_pair [] n h = absurd (omega arith)
deepest_pair (p ∷ ps) n h = elim (either (max (depth p.0) (depth p.1)) (pairs_depth (pairs_of ps)) n h) [
  | inl l ↦ (p, head_in p ps, l)
  | inr l ↦ let w = deepest_pair ps n l in (w.0, tail_in p ps w.0 w.1, w.2)
]
  where
    either : (a b n : ℕ) → suc n ≤ max a b → (suc n ≤ a) ⊎ (suc n ≤ b)
    either a b n h = grind arith

yes_one : (b : Bool) → b ≡ true → 1 ≤ cond b 1 0
yes_one true e = omega arith
yes_one false e = cc

no_one : (b : Bool) → (b ≡ true → ⊥) → cond b 1 0 ≤ 0
no_one true f = absurd (f refl)
no_one false f = omega arith

-- a pair counts for its key
counts : (ps : List (Val × Val)) (p : Val × Val) (key : Val) → Contains ps p → p.0 ≡ key → 1 ≤ key_count key ps
counts [] p key h e = absurd (none_in p h)
counts (q ∷ qs) p key h e = elim (cons_cases q qs p h) [
  | inl f ↦
      let same : val_eq q.0 key ≡ true = subst (λ (k : Val). val_eq q.0 k ≡ true) (ap (λ (w : Val × Val). w.0) f ∙ e) (val_eq_equiv.refl q.0) in
      omega (arith, count_cons key q qs, yes_one (val_eq q.0 key) same)
  | inr g ↦ omega (arith, count_cons key q qs, counts qs p key g e)
]

-- a key that counts is that of a pair
counted_in : (ps : List (Val × Val)) (key : Val) → 1 ≤ key_count key ps → Contains (map (λ p. p.0) ps) key
counted_in [] key h = absurd (omega (arith, h))
counted_in (q ∷ qs) key h = either (counted_in qs key) (val_eq q.0 key) refl
  where
    either : (1 ≤ key_count key qs → Contains (map (λ (p : Val × Val). p.0) qs) key) → (b : Bool) → val_eq q.0 key ≡ b → Contains (q.0 ∷ map (λ (p : Val × Val). p.0) qs) key
    either ih true e = subst (λ (k : Val). Contains (q.0 ∷ map (λ (p : Val × Val). p.0) qs) k) (val_same q.0 key e) (head_in q.0 (map (λ (p : Val × Val). p.0) qs))
    either ih false e = tail_in q.0 (map (λ (p : Val × Val). p.0) qs) key (ih (omega (arith, h, count_cons key q qs, no_one (val_eq q.0 key) (λ f. let g : true ≡ false = sym f ∙ e in cc))))

-- of pairs with no key twice, those among others are no more than these
no_more : (us vs : List (Val × Val)) → ¬ HasKeyTwice us → ((w : Val × Val) → Contains us w → Contains vs w) → length us ≤ length vs
no_more [] vs n f = omega arith
no_more (u ∷ us) vs n f =
    let here = f u (head_in u us) in
    let there : IsPermutation vs (u ∷ remove vs here.0) = IsPermutation-remove vs here.0 u here.1 (sym here.2) in
    let rest = no_more us (remove vs here.0) (λ t. n (record { key = t.key; twice = omega (arith, t.twice, count_cons t.key u us) })) (λ w h.
    elim (cons_cases u (remove vs here.0) w (Contains-permutation vs (u ∷ remove vs here.0) w there (f w (tail_in u us w h)))) [
      | inl e ↦ absurd (n (record { key = u.0; twice = omega (arith, count_cons u.0 u us, yes_one (val_eq u.0 u.0) (val_eq_equiv.refl u.0), counts us w u.0 h (ap (λ (z : Val × Val). z.0) (sym e))) }))
      | inr g ↦ g
    ]) in
    omega (arith, rest, length_permutation vs (u ∷ remove vs here.0) there)

-- the pairs of a function are no more than allowed
pub mapping_few : (ps : List (Val × Val)) (f : Val) → IsMappingOf ps f → length ps ≤ max_members
mapping_few ps f m =
    let fewer = no_more ps (pairs_in f) m.0 (λ w h. (m.1.same w.0 w.1).1 h) in
    omega (arith, fewer, (keys_ordered f m.1.valid m.1.is_function).few, length-map (pairs_in f) (λ (p : Val × Val). p.0))

-- and not too deep
pub mapping_shallow : (ps : List (Val × Val)) (f : Val) → IsMappingOf ps f → depth (function (pairs_of ps)) ≤ max_depth
mapping_shallow ps f m =
    let low = pairs_low ps (λ (r : Val × Val) h. pair_depth_in (pairs_in f) r ((m.1.same r.0 r.1).1 h)) (ap depth (function_is f m.1.is_function)) m.1.valid.shallow in
    omega (arith, low)
  where
    pairs_low : (qs : List (Val × Val)) → ((r : Val × Val) → Contains qs r → max (depth r.0) (depth r.1) ≤ pairs_depth (pairs_of (pairs_in f))) → depth f ≡ suc (pairs_depth (pairs_of (pairs_in f))) → depth f ≤ 32 → pairs_depth (pairs_of qs) ≤ 31
    pairs_low [] g e h = omega arith
    pairs_low (q ∷ qs) g e h =
        let here = g q (head_in q qs) in
        let rest = pairs_low qs (λ r k. g r (tail_in q qs r k)) e h in
        omega (arith, here, rest, e, h)

-- of too many pairs, or of pairs that are too deep, there is no function
pub no_mapping_large : (ps : List (Val × Val)) → max_members < length ps → (f : Val) → ¬ IsMappingOf ps f
no_mapping_large ps h f m = omega (arith, h, mapping_few ps f m)

pub no_mapping_deep : (ps : List (Val × Val)) → max_depth < depth (function (pairs_of ps)) → (f : Val) → ¬ IsMappingOf ps f
no_mapping_deep ps h f m = omega (arith, h, mapping_shallow ps f m)

pub no_sequence_large : (vs : List Val) → max_members < length vs → (f : Val) → ¬ IsSequenceOf vs f
no_sequence_large vs h f m =
    let valid : IsValue (sequence_of vs) = subst (λ (w : Val). IsValue w) m.0 m.1 in
    omega (arith, h, (keys_ordered (sequence_of vs) valid tt).few, length-map (entries (pairs_of (numbered_from 1 vs))) (λ (p : Val × Val). p.0), ap (λ (l : List (Val × Val)). length l) (entries-pairs_of (numbered_from 1 vs)), length-numbered 1 vs)

pub no_sequence_deep : (vs : List Val) → max_depth < depth (sequence_of vs) → (f : Val) → ¬ IsSequenceOf vs f
no_sequence_deep vs h f m =
    let valid : IsValue (sequence_of vs) = subst (λ (w : Val). IsValue w) m.0 m.1 in
    omega (arith, h, valid.shallow)
