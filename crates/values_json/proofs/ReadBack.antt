-- What is printed of a value reads as that value.
use Rattle.std.proofs.Common.{◌≡◌, inl, inr, ℕ, suc, ◌≤◌, ℤ, pos, negsuc, List, [], ◌∷◌, map, Bool, true, false, ◌&&◌, not, Some, codes, ap, sym, subst, refl, arith, FitsSigned, if◌then◌else◌}
use Rattle.std.proofs.lemmas.Int.{ints}
use Rattle.std.proofs.lemmas.Bool.Decides.{nat_tests}
use Rattle.std.specs.Int.{w64}
use Rattle.std.specs.Str.{bytes_eq}
use Rattle.serde_json.specs.Data.{Data, null, boolean, number, array, object, Items, no_items, item, Members, no_members, member}
use Rattle.serde_json.specs.Data as json
use Rattle.serde_json.specs.Find.{as_i64, of_integer}
use Rattle.base_core.specs.Texts.{same_bytes}
use Rattle.values_core.specs.Data.{Val, model, truth, integer, string, set, function, Vals, no_vals, more_vals, Pairs, no_pairs, more_pairs, members, entries, pairs_of, depth, vals_depth, pairs_depth}
use Rattle.values_core.specs.IsValue.{IsCanonical, AreCanonical, HaveCanonical, max_depth}
use Rattle.values_core.specs.Order.{val_eq}
use Rattle.values_core.specs.OrderLaws.{val_same}
use Rattle.values_core.specs.Functions.{fields_as_pairs, numbered_from}
use Rattle.values_core.specs.FunctionLaws.{ascending_once}
use Rattle.values_json.specs.Reads.{Reads, ReadsEach, ReadsPairs, ReadsFields, IsMappingOf, is_marked}
use Rattle.values_json.specs.Prints.{prints, print_members, print_values, print_fields, print_pairs, are_numbered, are_named, is_name, name_of, marked, PrintsReadBack}
use Rattle.values_json.proofs.OneValue.{one_value}

both : (a b : Bool) → (a && b) ≡ true → (a ≡ true) × (b ≡ true)
both true true e = (refl, refl)
both true false e = cc
both false b e = cc

reads_integer : (z : ℤ) → FitsSigned w64 z → as_i64 (of_integer z) ≡ Some z
reads_integer (pos n) f = grind (arith, ints, nat_tests, f)
reads_integer (negsuc n) f = refl

model_case : (s : List ℕ) (b : Bool) → bytes_eq s (codes "null") ≡ b → Reads (if b then null else marked (codes "$model") (json.string s)) (model s)
model_case s true e = ap model (same_bytes s (codes "null") e)
model_case s false e = inr (inr (inr (refl, refl)))

abbrev fields_of : Pairs → List (List ℕ × Val)
fields_of no_pairs = []
fields_of (more_pairs k v ps) = (name_of k, v) ∷ fields_of ps

pub numbered_is : (n : ℕ) (ps : Pairs) → are_numbered n ps ≡ true → ps ≡ pairs_of (numbered_from n (map (λ (p : Val × Val). p.1) (entries ps)))
numbered_is n no_pairs e = refl
numbered_is n (more_pairs k v ps) e =
    let h = both (val_eq k (integer (pos n))) (are_numbered (suc n) ps) e in
    let key : k ≡ integer (pos n) = val_same k (integer (pos n)) h.0 in
    let more = numbered_is (suc n) ps h.1 in
    λ i. more_pairs (key i) v (more i)

name_is : (k : Val) → is_name k ≡ true → (string (name_of k) ≡ k) × (is_marked (name_of k) ≡ false)
name_is (string s) e = (refl, unmarked (is_marked s) e)
  where
    unmarked : (b : Bool) → not b ≡ true → b ≡ false
    unmarked true h = cc
    unmarked false h = refl
name_is (model s) e = cc
name_is (truth s) e = cc
name_is (integer s) e = cc
name_is (set s) e = cc
name_is (function s) e = cc

named_is : (ps : Pairs) → are_named ps ≡ true → fields_as_pairs (fields_of ps) ≡ entries ps
named_is no_pairs e = refl
named_is (more_pairs k v ps) e =
    let h = both (is_name k) (are_named ps) e in
    let key = (name_is k h.0).0 in
    let more = named_is ps h.1 in
    λ i. (key i, v) ∷ more i

mapping : (ps : Pairs) → IsCanonical (function ps) → depth (function ps) ≤ max_depth → IsMappingOf (entries ps) (function ps)
mapping ps c d = (ascending_once (entries ps) c.0.ascending, record { valid = record { canonical = c; shallow = d }; is_function = tt; same = λ k v. (λ h. h, λ h. h) })

function_case : (ps : Pairs) → IsCanonical (function ps) → depth (function ps) ≤ max_depth → ReadsEach (print_values ps) (map (λ (p : Val × Val). p.1) (entries ps))
    → (are_named ps ≡ true → ReadsFields (print_fields ps) (fields_of ps)) → ReadsPairs (print_pairs ps) (entries ps) → (a b : Bool) → are_numbered 1 ps ≡ a → are_named ps ≡ b
    → Reads (if a then array (print_values ps) else (if b then object (print_fields ps) else marked (codes "$fun") (array (print_pairs ps)))) (function ps)
function_case ps c d vs fs es true b e f = (map (λ (p : Val × Val). p.1) (entries ps), vs, (ap function (numbered_is 1 ps e), record { canonical = c; shallow = d }))
function_case ps c d vs fs es false true e f = inl (fields_of ps, fs f, subst (λ (qs : List (Val × Val)). IsMappingOf qs (function ps)) (sym (named_is ps f)) (mapping ps c d))
function_case ps c d vs fs es false false e f = inr (inr (inl (refl, (entries ps, es, mapping ps c d))))

mutual
  reads_back : (v : Val) → IsCanonical v → depth v ≤ max_depth → Reads (prints v) v
  reads_back (model s) c d = model_case s (bytes_eq s (codes "null")) refl
  reads_back (truth b) c d = refl
  reads_back (integer z) c d = (z, reads_integer z c, refl)
  reads_back (string s) c d = refl
  reads_back (set vs) c d = inr (inl (refl, (members vs, read_members vs c.1 (omega (arith, d)), record { valid = record { canonical = c; shallow = d }; is_set = tt; same = λ v. (λ h. h, λ h. h) })))
  reads_back (function ps) c d = function_case ps c d (read_values ps c.1 (omega (arith, d))) (read_fields ps c.1 (omega (arith, d))) (read_pairs ps c.1 (omega (arith, d))) (are_numbered 1 ps) (are_named ps) refl refl

  read_members : (vs : Vals) → AreCanonical vs → vals_depth vs ≤ max_depth → ReadsEach (print_members vs) (members vs)
  read_members no_vals c d = tt
  read_members (more_vals v vs) c d = (reads_back v c.0 (omega (arith, d)), read_members vs c.1 (omega (arith, d)))

  read_values : (ps : Pairs) → HaveCanonical ps → pairs_depth ps ≤ max_depth → ReadsEach (print_values ps) (map (λ (p : Val × Val). p.1) (entries ps))
  read_values no_pairs c d = tt
  read_values (more_pairs k v ps) c d = (reads_back v c.1 (omega (arith, d)), read_values ps c.2 (omega (arith, d)))

  read_fields : (ps : Pairs) → HaveCanonical ps → pairs_depth ps ≤ max_depth → are_named ps ≡ true → ReadsFields (print_fields ps) (fields_of ps)
  read_fields no_pairs c d e = tt
  read_fields (more_pairs k v ps) c d e =
      let h = both (is_name k) (are_named ps) e in ((name_is k h.0).1, refl, reads_back v c.1 (omega (arith, d)), read_fields ps c.2 (omega (arith, d)) h.1)

  read_pairs : (ps : Pairs) → HaveCanonical ps → pairs_depth ps ≤ max_depth → ReadsPairs (print_pairs ps) (entries ps)
  read_pairs no_pairs c d = tt
  read_pairs (more_pairs k v ps) c d = ((reads_back k c.0 (omega (arith, d)), (reads_back v c.1 (omega (arith, d)), tt)), read_pairs ps c.2 (omega (arith, d)))

pub read_back : PrintsReadBack
read_back v h = let r = reads_back v h.canonical h.shallow in (r, λ w q. one_value (prints v) w v q r)
