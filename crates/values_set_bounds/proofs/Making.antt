-- How many members the sets have that are made of others, and how deep they are.
use Rattle.std.proofs.Common.{◌≡◌, ◌↔◌, inl, inr, ℕ, zero, suc, ◌+◌, ◌-◌, ◌*◌, ◌^◌, ◌<◌, ◌≤◌, max, List, ◌++◌, length, replicate, ap, arith}
use Rattle.std.specs.List.{Contains, zip}
use Rattle.std.proofs.Math.Nat.{mul-le-mul, pow-zero, pow-succ'}
use Rattle.std.proofs.Math.Pow.{pow_mono}
use Rattle.std.proofs.lemmas.List.{length-append}
use Rattle.std.proofs.lemmas.List.Elements.{Contains-append_left, Contains-append_right, Contains-append_cases}
use Rattle.values_core.specs.Data.{Val, depth, vals_depth, vals_of}
use Rattle.values_core.specs.Ascending.{none_in}
use Rattle.values_core.specs.IsValue.{IsValue, max_members}
use Rattle.values_core.specs.Sets.{IsSet, items_of, count_of}
use Rattle.values_core.specs.SetLaws.{depth_items, length-items_of}
use Rattle.values_core.specs.SetOperations.{InPowerset, InUnion}
use Rattle.values_core.specs.Products.{InFunctionSet}
use Rattle.values_operations.specs.Choices.{AreKeysAndParts, IsChoice, IsChoiceOf, choice}
use Rattle.values_operations.specs.Counts.{ways}
use Rattle.values_operations.specs.Subsets.{IsSubsetOf}
use Rattle.values_operations.proofs.Adapted.{domain_and_range, in_function_set}
use Rattle.values_operations.proofs.Choosing.{choice_each, key_of_zip}
use Rattle.values_operations.proofs.Made.{function_exists, member_inner}
use Rattle.values_operations.proofs.Subsets.{all_subsets, set_members, subset_exists}
use Rattle.values_operations.proofs.Ways.{all_ways, chosen_pairs, length-chosen, of_a_part, value_of_zip}
use Rattle.values_set_bounds.proofs.Existing.{IsThere, function_depth, listed_there, member_depth, numbered_list, set_depth}

-- the same set under another name of its condition
pub there_as : (P Q : Val → Type 0) (n l : ℕ) → ((v : Val) → P v ↔ Q v) → IsThere P n l → IsThere Q n l
there_as P Q n l same t = record {
  one = t.one;
  meets = record { valid = t.meets.valid; is_set = t.meets.is_set; same = λ v. (λ h. (same v).0 ((t.meets.same v).0 h), λ h. (t.meets.same v).1 ((same v).1 h)) };
  few = t.few;
  shallow = t.shallow;
}

-- the subsets of a set
subset_low : (a s : Val) → IsSet a → InPowerset a s → depth s ≤ depth a
subset_low a s h q =
    let inside = vals_depth (vals_of (items_of a)) in
    let deep : depth a ≡ suc (vals_depth (vals_of (items_of a))) = depth_items a h in
    let low : depth s ≤ suc (vals_depth (vals_of (items_of a))) = set_depth s inside q.1 (λ v g. omega (arith, deep, member_depth a v h (q.2 v g))) in
    omega (arith, deep, low)

pub subsets_there : (a : Val) (n l : ℕ) → IsValue a → IsSet a → count_of a ≤ n → 2 ^ n ≤ max_members → depth a ≤ l → l ≤ 31 → IsThere (InPowerset a) (2 ^ n) (suc l)
subsets_there a n l p h few fit low fits =
    let members = set_members a p h in
    let w = numbered_list (IsSubsetOf (items_of a)) (2 ^ length (items_of a)) (λ k g. subset_exists (items_of a) k members) in
    let fewer : length (items_of a) ≤ n = omega (arith, few, length-items_of a) in
    let most : 2 ^ length (items_of a) ≤ 2 ^ n = pow_mono fewer in
    listed_there (InPowerset a) w.0 (2 ^ n) l (all_subsets a w.0 w.2) (omega (arith, w.1, most)) fit fits
    (λ s q. (q.0, omega (arith, low, subset_low a s h q)))

-- the functions with a member of the part beside it at each key
choice_low : (keys parts : List Val) (l : ℕ) (f : Val) → AreKeysAndParts keys parts → 1 ≤ l → ((k : Val) → Contains keys k → depth k < l) → ((p : Val) → Contains parts p → depth p ≤ l) → IsChoice keys parts f → depth f ≤ l
choice_low keys parts l f a some low flat c =
    let fewer : depth f ≤ suc (l - 1) = function_depth f (l - 1) c.2.is_function (λ r g.
    let r_in = (c.2.same r.0 r.1).0 g in
    let key : depth r.0 < l = low r.0 (key_of_zip keys c.0 r (length-chosen keys parts c.0 a c.1) r_in) in
    let part = of_a_part parts c.0 r.1 c.1 (value_of_zip keys c.0 r r_in) in
    let value : depth r.1 < depth part.0 = member_depth part.0 r.1 (a.sets part.0 part.1) part.2 in
    let top : depth part.0 ≤ l = flat part.0 part.1 in
    (omega (arith, key), omega (arith, value, top))) in
    omega (arith, fewer, some)

pub choices_there : (keys parts : List Val) (n l : ℕ) → AreKeysAndParts keys parts → ways parts ≤ n → n ≤ max_members → 1 ≤ l → l ≤ 31 → ((k : Val) → Contains keys k → depth k < l) → ((p : Val) → Contains parts p → depth p ≤ l)
    → IsThere (IsChoice keys parts) n (suc l)
choices_there keys parts n l a few fit some fits low flat =
    let w = numbered_list (IsChoiceOf keys parts) (ways parts) (λ k g. function_exists (zip keys (choice parts k)) (chosen_pairs keys parts (choice parts k) a (choice_each parts k g))) in
    listed_there (IsChoice keys parts) w.0 n l (all_ways keys parts w.0 a w.2) (omega (arith, w.1, few)) fit fits
    (λ f c. (c.2.valid, choice_low keys parts l f a some low flat c))

-- functions into one set
ways_of_one : (c : Val) (k n : ℕ) → length (items_of c) ≤ n → ways (replicate k c) ≤ n ^ k
ways_of_one c zero n h = omega (arith, pow-zero n)
ways_of_one c (suc k) n h =
    let rest = ways_of_one c k n h in
    let both : length (items_of c) * ways (replicate k c) ≤ n * n ^ k = mul-le-mul h rest in
    omega (arith, both, pow-succ' n k)

one_of_many : (k : ℕ) (c p : Val) → Contains (replicate k c) p → depth p ≤ depth c
one_of_many zero c p h = absurd (none_in p h)
one_of_many (suc k) c p (zero, i, e) = let same : depth c ≡ depth p = ap depth e in omega arith
one_of_many (suc k) c p (suc j, i, e) = one_of_many k c p (j, omega arith, e)

pub functions_there : (a c : Val) (n l : ℕ) → IsValue a → IsSet a → IsValue c → IsSet c → count_of c ≤ n → n ^ length (items_of a) ≤ max_members → depth a ≤ l → depth c ≤ l → l ≤ 31
    → IsThere (InFunctionSet a c) (n ^ length (items_of a)) (suc l)
functions_there a c n l p h q k few fit low flat fits =
    let keys = items_of a in
    let parts = replicate (length (items_of a)) c in
    let some : 1 ≤ l = omega (arith, depth_items a h, low) in
    let fewer : length (items_of c) ≤ n = omega (arith, few, length-items_of c) in
    there_as (IsChoice keys parts) (InFunctionSet a c) (n ^ length (items_of a)) (suc l) (λ f. in_function_set a c f p h q k)
    (choices_there keys parts (n ^ length (items_of a)) l (domain_and_range a c p h q k) (ways_of_one c (length (items_of a)) n fewer) fit some fits
    (λ key g. omega (arith, low, member_depth a key h g))
    (λ s g. omega (arith, flat, one_of_many (length (items_of a)) c s g)))

-- the members of two sets
pub union_there : (a b : Val) (n m l k : ℕ) → IsValue a → IsSet a → IsValue b → IsSet b → count_of a ≤ n → count_of b ≤ m → n + m ≤ max_members → depth a ≤ l → depth b ≤ k → IsThere (InUnion a b) (n + m) (max l k)
union_there a b n m l k p h q j few fewer fit low flat =
    let deep = max (depth a) (depth b) - 1 in
    let one : 1 ≤ depth a = omega (arith, depth_items a h) in
    let t = listed_there (InUnion a b) (items_of a ++ items_of b) (n + m) (max (depth a) (depth b) - 1)
    (λ v. (Contains-append_cases (items_of a) (items_of b) v, back v))
    (omega (arith, length-append (items_of a) (items_of b), few, fewer, length-items_of a, length-items_of b)) fit
    (omega (arith, p.shallow, q.shallow))
    each in
    record { one = t.one; meets = t.meets; few = t.few; shallow = omega (arith, t.shallow, one, low, flat) }
  where
    back : (v : Val) → InUnion a b v → Contains (items_of a ++ items_of b) v
    back v (inl g) = Contains-append_left (items_of a) (items_of b) v g
    back v (inr g) = Contains-append_right (items_of a) (items_of b) v g

    each : (v : Val) → InUnion a b v → IsValue v × (depth v ≤ max (depth a) (depth b) - 1)
    each v (inl g) = ((member_inner a v p g).valid, omega (arith, member_depth a v h g))
    each v (inr g) = ((member_inner b v q g).valid, omega (arith, member_depth b v j g))
