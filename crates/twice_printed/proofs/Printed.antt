-- The JSON of a value has no line feed.
use Rattle.std.proofs.Common.{ℕ, suc, ℤ, pos, negsuc, List, [], ◌∷◌, ◌++◌, Bool, true, false, refl, if◌then◌else◌, codes}
use Rattle.std.specs.Str.{bytes_eq}
use Rattle.json.specs.Print.{quoted}
use Rattle.serde_json.specs.Data.{Data, null, boolean, number, array, object, item, no_items, Members, no_members, member}
use Rattle.serde_json.specs.Data as json
use Rattle.serde_json.specs.Find.{of_integer}
use Rattle.serde_json.specs.Written.{comma_if, compact_text, items_text, members_text}
use Rattle.values_core.specs.Data.{Val, model, truth, integer, string, set, function, Vals, no_vals, more_vals, Pairs, no_pairs, more_pairs}
use Rattle.values_json.specs.Prints.{are_named, are_numbered, marked, name_of, prints, print_fields, print_members, print_pairs, print_values}
use Rattle.twice_printed.proofs.Feedless.{NoFeed, feedless, feedless-append, feedless-decimal, feedless-quoted}

comma_feedless : (later : Bool) → NoFeed (comma_if later)
comma_feedless true = (refl, tt)
comma_feedless false = tt

number_feedless : (z : ℤ) → NoFeed (compact_text (number (of_integer z)))
number_feedless (pos n) = feedless-decimal n
number_feedless (negsuc n) = (refl, feedless-decimal (suc n))

member_feedless : (later : Bool) (k : List ℕ) (d : Data) (ms : Members) → NoFeed (compact_text d) → NoFeed (members_text true ms) → NoFeed (members_text later (member k d ms))
member_feedless later k d ms one more =
    let rest : NoFeed (58 ∷ (compact_text d ++ members_text true ms)) = (refl, feedless-append (compact_text d) (members_text true ms) one more) in
    feedless-append (comma_if later) _ (comma_feedless later) (feedless-append (quoted k) (58 ∷ (compact_text d ++ members_text true ms)) (feedless-quoted k) rest)

marked_feedless : (k : List ℕ) (d : Data) → NoFeed (compact_text d) → NoFeed (compact_text (marked k d))
marked_feedless k d h = (refl, member_feedless false k d no_members h (refl, tt))

model_feedless : (b : Bool) (s : List ℕ) → NoFeed (compact_text (if b then null else marked (codes "$model") (json.string s)))
model_feedless true s = feedless null tt
model_feedless false s = marked_feedless (codes "$model") (json.string s) (feedless-quoted s)

truth_feedless : (b : Bool) → NoFeed (compact_text (boolean b))
truth_feedless true = feedless (boolean true) tt
truth_feedless false = feedless (boolean false) tt

one_of : (a b : Bool) (x y z : Data) → NoFeed (compact_text x) → NoFeed (compact_text y) → NoFeed (compact_text z) → NoFeed (compact_text (if a then x else (if b then y else z)))
one_of true b x y z f g h = f
one_of false true x y z f g h = g
one_of false false x y z f g h = h

mutual
  pub printed_feedless : (v : Val) → NoFeed (compact_text (prints v))
  printed_feedless (model s) = model_feedless (bytes_eq s (codes "null")) s
  printed_feedless (truth b) = truth_feedless b
  printed_feedless (integer z) = number_feedless z
  printed_feedless (string s) = feedless-quoted s
  printed_feedless (set vs) = marked_feedless (codes "$set") (array (print_members vs)) (refl, members_feedless false vs)
  printed_feedless (function ps) =
      one_of (are_numbered 1 ps) (are_named ps) (array (print_values ps)) (object (print_fields ps)) (marked (codes "$fun") (array (print_pairs ps)))
      (refl, values_feedless false ps) (refl, fields_feedless false ps) (marked_feedless (codes "$fun") (array (print_pairs ps)) (refl, pairs_feedless false ps))

  members_feedless : (later : Bool) (vs : Vals) → NoFeed (items_text later (print_members vs))
  members_feedless later no_vals = (refl, tt)
  members_feedless later (more_vals v vs) =
      feedless-append (comma_if later) _ (comma_feedless later) (feedless-append (compact_text (prints v)) (items_text true (print_members vs)) (printed_feedless v) (members_feedless true vs))

  values_feedless : (later : Bool) (ps : Pairs) → NoFeed (items_text later (print_values ps))
  values_feedless later no_pairs = (refl, tt)
  values_feedless later (more_pairs k v ps) =
      feedless-append (comma_if later) _ (comma_feedless later) (feedless-append (compact_text (prints v)) (items_text true (print_values ps)) (printed_feedless v) (values_feedless true ps))

  fields_feedless : (later : Bool) (ps : Pairs) → NoFeed (members_text later (print_fields ps))
  fields_feedless later no_pairs = (refl, tt)
  fields_feedless later (more_pairs k v ps) = member_feedless later (name_of k) (prints v) (print_fields ps) (printed_feedless v) (fields_feedless true ps)

  pairs_feedless : (later : Bool) (ps : Pairs) → NoFeed (items_text later (print_pairs ps))
  pairs_feedless later no_pairs = (refl, tt)
  pairs_feedless later (more_pairs k v ps) =
      let pair = array (item (prints k) (item (prints v) no_items)) in
      let end : NoFeed (93 ∷ []) = (refl, tt) in
      let second : NoFeed (44 ∷ (compact_text (prints v) ++ 93 ∷ [])) = (refl, feedless-append (compact_text (prints v)) (93 ∷ []) (printed_feedless v) end) in
      let first : NoFeed (compact_text pair) = (refl, feedless-append (compact_text (prints k)) (44 ∷ (compact_text (prints v) ++ 93 ∷ [])) (printed_feedless k) second) in
      feedless-append (comma_if later) _ (comma_feedless later) (feedless-append (compact_text pair) (items_text true (print_pairs ps)) first (pairs_feedless true ps))
