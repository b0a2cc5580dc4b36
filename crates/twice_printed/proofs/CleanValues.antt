-- A value is printed as JSON that has whole numbers alone, whose keys ascend, and that is not deep.
use Rattle.std.proofs.Common.{◌≡◌, ℕ, suc, ◌*◌, ◌+◌, ◌≤◌, ℤ, pos, negsuc, List, Bool, true, false, ◌&&◌, Less, refl, sym, arith, codes, FitsSigned, if◌then◌else◌, true≢false, IsUtf8}
use Rattle.std.proofs.lemmas.Int.{ints}
use Rattle.std.proofs.lemmas.Bool.Decides.{nat_tests}
use Rattle.std.proofs.lemmas.Str.{IsUtf8-nil}
use Rattle.json.proofs.Printed.Utf8.{IsUtf8-are_ascii}
use Rattle.std.specs.Int.{w64}
use Rattle.std.specs.List.{AllByRecursion}
use Rattle.std.specs.List.Sorted.{IsStrictlySortedBy}
use Rattle.std.specs.Cmp.Lexicographic.{slice_cmp}
use Rattle.std.specs.Ordering.{nat_cmp}
use Rattle.std.specs.Str.{bytes_eq}
use Rattle.serde_json.specs.Data.{null, array, object, Items, Members, depth, items_depth, members_depth}
use Rattle.serde_json.specs.Data as json
use Rattle.serde_json.specs.Find.{of_integer}
use Rattle.values_core.specs.Data as tla
use Rattle.values_core.specs.Data.{Val, model, truth, integer, string, set, function, Vals, no_vals, more_vals, Pairs, no_pairs, more_pairs, vals_depth, pairs_depth}
use Rattle.values_core.specs.IsValue.{IsCanonical, AreCanonical, HaveCanonical, keys}
use Rattle.values_core.specs.Order.{val_cmp}
use Rattle.values_json.specs.Prints.{prints, print_members, print_values, print_fields, print_pairs, are_numbered, are_named, is_name, name_of, marked}
use Rattle.twice_printed.proofs.CleanData.{IsWhole, IsClean, AreClean, HaveClean, KeysAbove}

whole : (z : ℤ) → FitsSigned w64 z → IsWhole (of_integer z)
whole (pos n) f = grind (arith, ints, nat_tests, f)
whole (negsuc n) f = grind (arith, ints, nat_tests, f)

both : (a b : Bool) → (a && b) ≡ true → (a ≡ true) × (b ≡ true)
both true true e = (refl, refl)
both true false e = absurd (true≢false (sym e))
both false b e = absurd (true≢false (sym e))

-- names are ordered as their texts
order_of : (k l : Val) → is_name k ≡ true → is_name l ≡ true → val_cmp k l ≡ Less → slice_cmp nat_cmp (name_of k) (name_of l) ≡ Less
unfolding val_cmp
order_of (string s) (string t) e f h = h
order_of (string s) _ e f h = absurd (true≢false (sym f))
order_of _ l e f h = absurd (true≢false (sym e))

above : (k : Val) (ps : Pairs) → is_name k ≡ true → are_named ps ≡ true → AllByRecursion (λ l. val_cmp k l ≡ Less) (keys ps) → KeysAbove (name_of k) (print_fields ps)
above k no_pairs e f a = tt
above k (more_pairs l v ps) e f a = let b = both (is_name l) (are_named ps) f in (order_of k l e b.0 a.0, above k ps e b.1 a.1)

named_or : (b : Bool) (ps : Pairs) → are_named ps ≡ b → (are_named ps ≡ true → HaveClean (print_fields ps)) → AreClean (print_pairs ps)
    → IsClean (if b then object (print_fields ps) else marked (codes "$fun") (array (print_pairs ps)))
named_or true ps e fields pairs = fields e
named_or false ps e fields pairs = (IsUtf8-are_ascii (codes "$fun") refl, pairs, tt, tt)

function_or : (b : Bool) (ps : Pairs) → AreClean (print_values ps) → IsClean (if are_named ps then object (print_fields ps) else marked (codes "$fun") (array (print_pairs ps)))
    → IsClean (if b then array (print_values ps) else (if are_named ps then object (print_fields ps) else marked (codes "$fun") (array (print_pairs ps))))
function_or true ps a b = a
function_or false ps a b = b

model_or : (b : Bool) (s : List ℕ) → IsUtf8 s → IsClean (if b then null else marked (codes "$model") (json.string s))
model_or true s u = tt
model_or false s u = (IsUtf8-are_ascii (codes "$model") refl, u, tt, tt)

name_utf8 : (k : Val) → IsCanonical k → IsUtf8 (name_of k)
name_utf8 (string s) c = c
name_utf8 (model s) c = IsUtf8-nil
name_utf8 (truth b) c = IsUtf8-nil
name_utf8 (integer z) c = IsUtf8-nil
name_utf8 (set vs) c = IsUtf8-nil
name_utf8 (function ps) c = IsUtf8-nil

mutual
  unfolding IsStrictlySortedBy

  pub clean : (v : Val) → IsCanonical v → IsClean (prints v)
  clean (model s) c = model_or (bytes_eq s (codes "null")) s c
  clean (truth b) c = tt
  clean (integer z) c = whole z c
  clean (string s) c = c
  clean (set vs) c = (IsUtf8-are_ascii (codes "$set") refl, members_clean vs c.1, tt, tt)
  clean (function ps) c =
      function_or (are_numbered 1 ps) ps (values_clean ps c.1) (named_or (are_named ps) ps refl (λ e. fields_clean ps c.1 e c.0.ascending) (pairs_clean ps c.1))

  members_clean : (vs : Vals) → AreCanonical vs → AreClean (print_members vs)
  members_clean no_vals c = tt
  members_clean (more_vals v vs) c = (clean v c.0, members_clean vs c.1)

  values_clean : (ps : Pairs) → HaveCanonical ps → AreClean (print_values ps)
  values_clean no_pairs c = tt
  values_clean (more_pairs k v ps) c = (clean v c.1, values_clean ps c.2)

  fields_clean : (ps : Pairs) → HaveCanonical ps → are_named ps ≡ true → IsStrictlySortedBy val_cmp (keys ps) → HaveClean (print_fields ps)
  fields_clean no_pairs c e a = tt
  fields_clean (more_pairs k v ps) c e a =
      let b = both (is_name k) (are_named ps) e in (name_utf8 k c.0, clean v c.1, above k ps b.0 b.1 a.0, fields_clean ps c.2 b.1 a.1)

  pairs_clean : (ps : Pairs) → HaveCanonical ps → AreClean (print_pairs ps)
  pairs_clean no_pairs c = tt
  pairs_clean (more_pairs k v ps) c = ((clean k c.0, (clean v c.1, tt)), pairs_clean ps c.2)

deep_model : (b : Bool) (s : List ℕ) → depth (if b then null else marked (codes "$model") (json.string s)) ≤ 1
deep_model true s = omega arith
deep_model false s = omega arith

deep_function : (a b : Bool) (n : ℕ) (xs ys : Items) (ms : Members) → items_depth xs ≤ 3 * n + 1 → members_depth ms ≤ 3 * n + 1 → items_depth ys ≤ 3 * n + 2
    → depth (if a then array xs else (if b then object ms else marked (codes "$fun") (array ys))) ≤ 3 * suc n + 1
deep_function true b n xs ys ms x m y = omega arith
deep_function false true n xs ys ms x m y = omega arith
deep_function false false n xs ys ms x m y = omega arith

mutual
  pub depth_printed : (v : Val) → depth (prints v) ≤ 3 * tla.depth v + 1
  depth_printed (model s) = deep_model (bytes_eq s (codes "null")) s
  depth_printed (truth b) = omega arith
  depth_printed (integer z) = omega arith
  depth_printed (string s) = omega arith
  depth_printed (set vs) = let low = members_deep vs in omega arith
  depth_printed (function ps) = deep_function (are_numbered 1 ps) (are_named ps) (pairs_depth ps) (print_values ps) (print_pairs ps) (print_fields ps) (values_deep ps) (fields_deep ps) (pairs_deep ps)

  members_deep : (vs : Vals) → items_depth (print_members vs) ≤ 3 * vals_depth vs + 1
  members_deep no_vals = omega arith
  members_deep (more_vals v vs) = let one = depth_printed v in let more = members_deep vs in omega arith

  values_deep : (ps : Pairs) → items_depth (print_values ps) ≤ 3 * pairs_depth ps + 1
  values_deep no_pairs = omega arith
  values_deep (more_pairs k v ps) = let one = depth_printed v in let more = values_deep ps in omega arith

  fields_deep : (ps : Pairs) → members_depth (print_fields ps) ≤ 3 * pairs_depth ps + 1
  fields_deep no_pairs = omega arith
  fields_deep (more_pairs k v ps) = let one = depth_printed v in let more = fields_deep ps in omega arith

  pairs_deep : (ps : Pairs) → items_depth (print_pairs ps) ≤ 3 * pairs_depth ps + 2
  pairs_deep no_pairs = omega arith
  pairs_deep (more_pairs k v ps) = let key = depth_printed k in let one = depth_printed v in let more = pairs_deep ps in omega arith
