-- From a list of values to their sequence, and the values of a part.
use Rattle.std.proofs.Common.{◌≡◌, inl, inr, ℕ, zero, suc, ◌+◌, ◌<◌, ◌≤◌, List, [], ◌∷◌, ◌++◌, length, map, take, drop, Result, Err, ap, sym, ◌∙◌, subst, refl, arith, None, Some}
use Rattle.std.specs.List.{slice_get}
use Rattle.std.proofs.lemmas.List.{take_all, take_more}
use Rattle.std.proofs.lemmas.Option.{slice_get_within, get_or_from_slice_get, slice_get_cases}
use Rattle.values_core.specs.Data.{Val}
use Rattle.values_core.specs.Functions.{IsSequence, MakesSequence, keys_in, values_in}
use Rattle.values_core.specs.FunctionOperations.{GivesSequence, GivesRest}
use Rattle.values_core.specs.Data.{model, truth, integer, string, set, function, entries}
use Rattle.values_core.specs.Sets.{count_of}
use Rattle.values_core.specs.declared.value.ValueFault.{ValueFault}
use Rattle.values_core.specs.declared.value.ValueFault.TheVariants.{KeyTwice, TooLarge as LargeValue, TooDeep as DeepValue, NoMemory as NoRoom}
use Rattle.values_core.specs.declared.fault.OpFault.{OpFault}
use Rattle.values_core.specs.Refusals.{refusal_of}

pub refuses_sequence : (vs : List Val) (f : ValueFault) → MakesSequence vs (Err f) → GivesSequence vs (Err (refusal_of f))
refuses_sequence vs KeyTwice m = absurd m
refuses_sequence vs LargeValue m = (refl, m)
refuses_sequence vs DeepValue m = (refl, m.0, m.1)
refuses_sequence vs NoRoom m = tt

drop_push : (n : ℕ) (xs : List Val) (v : Val) → n ≤ length xs → drop n (xs ++ v ∷ []) ≡ drop n xs ++ v ∷ []
drop_push zero xs v h = refl
drop_push (suc n) [] v h = absurd (omega arith)
drop_push (suc n) (x ∷ xs) v h = drop_push n xs v (omega arith)

length_take : (n : ℕ) (xs : List Val) → n ≤ length xs → n ≤ length (take n xs)
length_take zero xs h = omega arith
length_take (suc n) [] h = absurd (omega arith)
length_take (suc n) (x ∷ xs) h = omega (arith, length_take n xs (omega arith))

-- one more value of a part
pub part_more : (xs : List Val) (from i : ℕ) (v : Val) → from ≤ i → slice_get xs i ≡ Some v → drop from (take (i + 1) xs) ≡ drop from (take i xs) ++ v ∷ []
part_more xs from i v h e =
    let within = slice_get_within xs i v e in
    ap (drop from) (take_more xs i v within ∙ ap (λ y. take i xs ++ y ∷ []) (get_or_from_slice_get xs i v v e))
    ∙ drop_push from (take i xs) v (omega (arith, length_take i xs (omega (arith, within))))

pub part_none : (xs : List Val) (from i : ℕ) → i < length xs → slice_get xs i ≡ None → drop from (take (i + 1) xs) ≡ drop from (take i xs)
part_none xs from i h e = elim (slice_get_cases xs i).1 [
  | inl g ↦ let f : None ≡ Some g.0 = sym e ∙ g.2 in cc
  | inr g ↦ absurd (omega (arith, g.0))
]

pub take_none : (xs : List Val) (i : ℕ) → slice_get xs i ≡ None → take (i + 1) xs ≡ take i xs
take_none xs i e = elim (slice_get_cases xs i).1 [
  | inl g ↦ let f : None ≡ Some g.0 = sym e ∙ g.2 in cc
  | inr g ↦ take_all (i + 1) xs (omega (arith, g.0)) ∙ sym (take_all i xs (omega (arith, g.0)))
]

length-map : (ps : List (Val × Val)) → length (map (λ p. p.1) ps) ≡ length ps
length-map [] = refl
length-map (p ∷ ps) = ap suc (length-map ps)

length-keys : (ps : List (Val × Val)) → length (map (λ p. p.0) ps) ≡ length ps
length-keys [] = refl
length-keys (p ∷ ps) = ap suc (length-keys ps)

-- a function has as many keys as pairs, and all else has none
pub count_keys : (f : Val) → length (keys_in f) ≤ count_of f
count_keys (function ps) = omega (arith, length-keys (entries ps))
count_keys (model s) = omega arith
count_keys (truth s) = omega arith
count_keys (integer s) = omega arith
count_keys (string s) = omega arith
count_keys (set s) = omega arith

-- a sequence has as many values as pairs
pub count_is : (s : Val) → IsSequence s → count_of s ≡ length (values_in s)
count_is (function ps) e = sym (length-map (entries ps))
count_is (model s) e = cc
count_is (truth s) e = cc
count_is (integer s) e = cc
count_is (string s) e = cc
count_is (set s) e = cc

pub rest_of : (vs ws : List Val) (r : Result Val OpFault) → 0 < length vs → ws ≡ drop 1 vs → GivesSequence ws r → GivesRest vs r
rest_of [] ws r h e g = absurd (omega (arith, h))
rest_of (v ∷ vs) ws r h e g = subst (λ us. GivesSequence us r) e g
