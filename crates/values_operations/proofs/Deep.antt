-- A set or a function that is too deep for a set to hold it, among those that are listed.
use Rattle.std.proofs.Common.{◌≡◌, inl, inr, ◌%◌, ◌<◌, ◌≤◌, max, List, [], ◌∷◌, length, get_or, Err, ap, sym, subst, refl, arith}
use Rattle.std.specs.List.{Contains, zip}
use Rattle.std.proofs.lemmas.Slice.Zip.{firsts-zip}
use Rattle.values_core.specs.Data.{Val, model, truth, integer, string, set, function, depth, pairs_of, pairs_depth, entries}
use Rattle.values_core.specs.Ascending.{cons_cases, head_in, tail_in, none_in}
use Rattle.values_core.specs.IsValue.{IsValue, max_depth, max_members}
use Rattle.values_core.specs.Sets.{IsSet, Member, items_of}
use Rattle.values_core.specs.SetLaws.{depth_items}
use Rattle.values_core.specs.SetOperations.{GivesSet, InPowerset, IsOneTooDeep}
use Rattle.values_core.specs.Functions.{IsFunction, HasPair}
use Rattle.values_core.specs.FunctionLaws.{key_in, pairs_of-entries}
use Rattle.values_core.specs.Products.{AreOneOfEach}
use Rattle.values_core.specs.declared.fault.EvalKind.TheVariants.{TooDeep}
use Rattle.values_core.specs.declared.fault.OpFault.TheVariants.{Refused}
use Rattle.values_operations.specs.Choices.{AreDeep, AreKeysAndParts, IsChoice, choice}
use Rattle.values_operations.specs.Counts.{not_too_many, ways}
use Rattle.values_operations.proofs.Choosing.{choice_each, quotient_below}
use Rattle.values_operations.proofs.Counting.{choices_are_counted, subsets_are_few}
use Rattle.values_operations.proofs.Listing.{deepest_in}
use Rattle.values_operations.proofs.Made.{function_exists}
use Rattle.values_operations.proofs.Ways.{chosen_pairs, length-chosen}

-- of the subsets of a set that is as deep as a value may be, the set itself is too deep for a set
pub deep_subsets : (a : Val) → IsValue a → IsSet a → length (items_of a) ≤ 16 → max_depth ≤ depth a → GivesSet (InPowerset a) (Err (Refused TooDeep 255))
deep_subsets a p h few d = (refl, subsets_are_few a few, record { one = a; meets = (p, h, λ w g. g); deep = d })

pair_below : (ps : List (Val × Val)) (r : Val × Val) → Contains ps r → max (depth r.0) (depth r.1) ≤ pairs_depth (pairs_of ps)
pair_below [] r h = absurd (none_in r h)
pair_below (q ∷ qs) r h = elim (cons_cases q qs r h) [
  | inl e ↦ let a : depth q.0 ≡ depth r.0 = ap (λ (w : Val × Val). depth w.0) e in let b : depth q.1 ≡ depth r.1 = ap (λ (w : Val × Val). depth w.1) e in omega arith
  | inr g ↦ let d = pair_below qs r g in omega (arith, d)
]

-- a function is deeper than its keys and values
deeper : (f key v : Val) → IsFunction f → HasPair f key v → max (depth key) (depth v) < depth f
deeper (function ps) key v h g = omega (arith, pair_below (entries ps) (key, v) g, ap pairs_depth (pairs_of-entries ps))
deeper (model s) key v h g = absurd h
deeper (truth s) key v h g = absurd h
deeper (integer s) key v h g = absurd h
deeper (string s) key v h g = absurd h
deeper (set s) key v h g = absurd h

-- one member of each part, this member of this part among them
with_member : (ps : List Val) (p w : Val) → 0 < ways ps → Contains ps p → Member w p → (vs : List Val) × AreOneOfEach vs ps × Contains vs w
with_member [] p w h g m = absurd (none_in p g)
with_member (q ∷ qs) p w h g m =
    let l = length (items_of q) in
    let left : 0 < ways qs = omega (arith, quotient_below l (ways qs) 0 h) in
    elim (cons_cases q qs p g) [
      | inl e ↦ (w ∷ choice qs 0, (subst (λ (s : Val). Member w s) (sym e) m, choice_each qs 0 left), head_in w (choice qs 0))
      | inr i ↦
          let u = with_member qs p w left i m in
          (get_or (items_of q) (0 % l) q ∷ u.0, ((choice_each (q ∷ qs) 0 h).0, u.1), tail_in (get_or (items_of q) (0 % l) q) u.0 w u.2)
    ]

key_beside : (ks vs : List Val) (v : Val) → length vs ≡ length ks → Contains vs v → (key : Val) × Contains (zip ks vs) (key, v)
key_beside ks [] v l h = absurd (none_in v h)
key_beside [] (w ∷ ws) v l h = absurd (omega (arith, l))
key_beside (k ∷ ks) (w ∷ ws) v l h = elim (cons_cases w ws v h) [
  | inl e ↦ (k, subst (λ (u : Val). Contains (zip (k ∷ ks) (w ∷ ws)) (k, u)) e (head_in (k, w) (zip ks ws)))
  | inr g ↦ let fewer : length ws ≡ length ks = omega (arith, l) in let u = key_beside ks ws v fewer g in (u.0, tail_in (k, w) (zip ks ws) (u.0, v) u.1)
]

-- a choice with this pair, one half of which is so deep
deep_choice : (keys parts vs : List Val) (key v : Val) → AreKeysAndParts keys parts → AreOneOfEach vs parts → Contains (zip keys vs) (key, v) → 31 ≤ max (depth key) (depth v) → IsOneTooDeep (IsChoice keys parts)
deep_choice keys parts vs key v a one h d =
    let f = function_exists (zip keys vs) (chosen_pairs keys parts vs a one) in
    let low = deeper f.0 key v f.1.is_function ((f.1.same key v).1 h) in
    record { one = f.0; meets = (vs, one, f.1); deep = omega (arith, d, low) }

one_deep_choice : (keys parts : List Val) → AreKeysAndParts keys parts → 0 < ways parts → AreDeep keys parts → IsOneTooDeep (IsChoice keys parts)
one_deep_choice keys parts a some (inl (k, h, d)) =
    let vs = choice parts 0 in
    let one = choice_each parts 0 some in
    let l = length-chosen keys parts vs a one in
    let r = key_in (zip keys vs) k (subst (λ (js : List Val). Contains js k) (sym (firsts-zip keys vs l)) h) in
    deep_choice keys parts vs k r.0 a one r.1 (omega (arith, d))
one_deep_choice keys parts a some (inr (p, h, d)) =
    let w = deepest_in (items_of p) 30 (omega (arith, d, depth_items p (a.sets p h))) in
    let u = with_member parts p w.0 some h w.1 in
    let r = key_beside keys u.0 w.0 (length-chosen keys parts u.0 a u.1) u.2 in
    deep_choice keys parts u.0 r.0 w.0 a u.1 r.1 (omega (arith, w.2))

-- of functions of which there are some and not too many, one is too deep for a set
pub deep_choices : (keys parts : List Val) → AreKeysAndParts keys parts → ways parts ≤ max_members → 0 < ways parts → AreDeep keys parts → GivesSet (IsChoice keys parts) (Err (Refused TooDeep 255))
deep_choices keys parts a few some d = (refl, not_too_many (ways parts) (IsChoice keys parts) few (choices_are_counted keys parts), one_deep_choice keys parts a some d)
