-- What is made of members of values is no deeper than a value may be.
use Rattle.std.proofs.Common.{◌≡◌, ◌⊎◌, inl, inr, ℕ, suc, ◌≤◌, pos, List, [], ◌∷◌, ap, sym, ◌∙◌, subst, refl, arith}
use Rattle.std.specs.List.{Contains}
use Rattle.values_core.specs.Data.{Val, model, truth, integer, string, set, function, depth, pairs_of, pairs_depth, entries}
use Rattle.values_core.specs.Ascending.{cons_cases, head_in, tail_in, none_in}
use Rattle.values_core.specs.IsValue.{IsValue, IsCanonical}
use Rattle.values_core.specs.Sets.{IsSet, Member, items_of}
use Rattle.values_core.specs.SetLaws.{depth_all, depth_items, member_shallow}
use Rattle.values_core.specs.Functions.{IsFunction, InDomain, HasPair, pairs_in, numbered_from, sequence_of}
use Rattle.values_core.specs.FunctionLaws.{pairs_of-entries, entries-pairs_of, pairs_ascending, one_pair, in_keys}
use Rattle.values_core.specs.Products.{AreOneOfEach, HasFields, IsName, SubsetsAreValues, FunctionsAreValues, TuplesAreValues, RecordsAreValues}
use Rattle.values_operations.proofs.Ways.{of_a_part}

pub subsets_are_values : SubsetsAreValues
subsets_are_values a s p c h f =
    let low = depth_all (items_of s) 31 (λ v g. member_shallow a v p (f v g)) in
    record { canonical = c; shallow = omega (arith, low, depth_items s h) }

pairs_low : (ps : List (Val × Val)) → ((r : Val × Val) → Contains ps r → (depth r.0 ≤ 31) × (depth r.1 ≤ 31)) → pairs_depth (pairs_of ps) ≤ 31
pairs_low [] f = omega arith
pairs_low (p ∷ ps) f =
    let w = f p (head_in p ps) in
    let rest = pairs_low ps (λ r h. f r (tail_in p ps r h)) in
    omega (arith, w.0, w.1, rest)

shallow_function : (f : Val) → IsCanonical f → IsFunction f → ((r : Val × Val) → Contains (pairs_in f) r → (depth r.0 ≤ 31) × (depth r.1 ≤ 31)) → IsValue f
shallow_function (function ps) c h f = record { canonical = c; shallow = omega (arith, pairs_low (entries ps) f, ap pairs_depth (pairs_of-entries ps)) }
shallow_function (model s) c h f = absurd h
shallow_function (truth s) c h f = absurd h
shallow_function (integer s) c h f = absurd h
shallow_function (string s) c h f = absurd h
shallow_function (set s) c h f = absurd h

pub functions_are_values : FunctionsAreValues
functions_are_values d c f p q k h keys values =
    shallow_function f k h (λ r g. (member_shallow d r.0 p (keys r.0 (in_keys (pairs_in f) r g)), member_shallow c r.1 q (values r.0 r.1 g)))

numbered_low : (vs : List Val) (n : ℕ) (r : Val × Val) → Contains (numbered_from n vs) r → (depth r.0 ≡ 0) × Contains vs r.1
numbered_low [] n r h = absurd (none_in r h)
numbered_low (v ∷ vs) n r h = elim (cons_cases (integer (pos n), v) (numbered_from (suc n) vs) r h) [
  | inl e ↦ (ap (λ (z : Val × Val). depth z.0) (sym e), subst (λ (z : Val × Val). Contains (v ∷ vs) z.1) e (head_in v vs))
  | inr g ↦ let w = numbered_low vs (suc n) r g in (w.0, tail_in v vs r.1 w.1)
]

pub tuples_are_values : TuplesAreValues
tuples_are_values parts vs valid one k =
    shallow_function (sequence_of vs) k tt (λ r g.
    let w = numbered_low vs 1 r (subst (λ (ps : List (Val × Val)). Contains ps r) (entries-pairs_of (numbered_from 1 vs)) g) in
    let p = of_a_part parts vs r.1 one w.1 in
    (omega (arith, w.0), member_shallow p.0 r.1 (valid p.0 p.1) p.2))

one_value : (f key v w : Val) → IsCanonical f → HasPair f key v → HasPair f key w → v ≡ w
one_value (function ps) key v w c h g = ap (λ (r : Val × Val). r.1) (one_pair (entries ps) (key, v) (key, w) (pairs_ascending (entries ps) c.0.ascending) refl h g)
one_value (model s) key v w c h g = absurd (none_in (key, v) h)
one_value (truth s) key v w c h g = absurd (none_in (key, v) h)
one_value (integer s) key v w c h g = absurd (none_in (key, v) h)
one_value (string s) key v w c h g = absurd (none_in (key, v) h)
one_value (set s) key v w c h g = absurd (none_in (key, v) h)

field_low : (names : List (List ℕ)) (parts : List Val) (f key v : Val) → ((p : Val) → Contains parts p → IsValue p) → IsCanonical f → HasFields names parts f → IsName names key → HasPair f key v → (depth key ≤ 31) × (depth v ≤ 31)
field_low [] parts f key v valid c fields name h = absurd name
field_low (n ∷ ns) [] f key v valid c fields name h = absurd fields
field_low (n ∷ ns) (p ∷ ps) f key v valid c fields (inl e) h =
    let same : fields.0.0 ≡ v = one_value f (string n) fields.0.0 v c fields.0.1 (subst (λ (k : Val). HasPair f k v) e h) in
    (omega (arith, ap depth e), omega (arith, ap depth same, member_shallow p fields.0.0 (valid p (head_in p ps)) fields.0.2))
field_low (n ∷ ns) (p ∷ ps) f key v valid c fields (inr g) h = field_low ns ps f key v (λ q i. valid q (tail_in p ps q i)) c fields.1 g h

pub records_are_values : RecordsAreValues
records_are_values names parts f valid c h fields domain =
    shallow_function f c h (λ r g. field_low names parts f r.0 r.1 valid c fields (domain r.0 (in_keys (pairs_in f) r g)) g)
