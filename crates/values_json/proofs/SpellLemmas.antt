-- The text of a value, pushed piece by piece.
use Rattle.std.proofs.Common.{◌≡◌, ℕ, zero, suc, ◌+◌, ◌≤◌, ℤ, pos, negsuc, List, [], ◌∷◌, ◌++◌, length, map, drop, Bool, true, false, nat_lt, if◌then◌else◌, codes, Some, Result, Ok, Err, OnOk, append_assoc, ap, ◌∙◌, subst, refl, arith}
use Rattle.std.specs.Fmt.{signed_decimal}
use Rattle.std.specs.List.{slice_get}
use Rattle.std.specs.Result.{is_ok}
use Rattle.std.specs.declared.alloc.AllocError.{AllocError}
use Rattle.std.proofs.lemmas.Bool.Decides.{nat_tests}
use Rattle.serde_json.proofs.OnLiterals.{serde_json_on_literals}
use Rattle.serde_json.specs.Data.{Data, array, string, Items, no_items, item, Members, no_members, member}
use Rattle.serde_json.specs.Find.{of_integer}
use Rattle.serde_json.specs.Written.{comma_if, compact_text, items_text, members_text, number_text}
use Rattle.values_core.specs.Data.{Val, pairs_of, vals_of}
use Rattle.values_json.specs.Prints.{prints, print_members, print_values, print_fields, print_pairs, name_of, marked}

pub integer_text : (z : ℤ) → signed_decimal z ≡ number_text (of_integer z)
integer_text (pos n) = refl
integer_text (negsuc n) = refl

pub set_text : (ds : Items) → codes "{\"$set\":[" ++ (items_text false ds ++ codes "}") ≡ compact_text (marked (codes "$set") (array ds))
unfolding serde_json_on_literals
set_text ds = refl

pub fun_text : (ds : Items) → codes "{\"$fun\":[" ++ (items_text false ds ++ codes "}") ≡ compact_text (marked (codes "$fun") (array ds))
unfolding serde_json_on_literals
fun_text ds = refl

pub model_text : (s : List ℕ) → codes "{\"$model\":" ++ (compact_text (string s) ++ codes "}") ≡ compact_text (marked (codes "$model") (string s))
unfolding serde_json_on_literals
model_text s = refl

pub later_true : (i : ℕ) → nat_lt 0 (i + 1) ≡ true
later_true i = grind (arith, nat_tests)

-- the text so far with one item more, before what is left
pub item_pushed : (old a new : List ℕ) (later : Bool) (d : Data) (ds : Items) → a ≡ old ++ comma_if later → new ≡ a ++ compact_text d → new ++ items_text true ds ≡ old ++ items_text later (item d ds)
item_pushed old a new later d ds p q =
    ap (λ (t : List ℕ). t ++ items_text true ds) (q ∙ ap (λ (t : List ℕ). t ++ compact_text d) p)
    ∙ append_assoc (old ++ comma_if later) (compact_text d) (items_text true ds)
    ∙ append_assoc old (comma_if later) (compact_text d ++ items_text true ds)

field_joined : (o x q s t m : List ℕ) → ((((o ++ x) ++ q) ++ s) ++ t) ++ m ≡ o ++ (x ++ (q ++ (s ++ (t ++ m))))
field_joined o x q s t m = simp append_assoc

-- the same of a field
pub field_pushed : (old a b c new : List ℕ) (later : Bool) (k : List ℕ) (d : Data) (ms : Members) → a ≡ old ++ comma_if later → b ≡ a ++ compact_text (string k) → c ≡ b ++ codes ":" → new ≡ c ++ compact_text d
    → new ++ members_text true ms ≡ old ++ members_text later (member k d ms)
field_pushed old a b c new later k d ms p q r s =
    let all : new ≡ (((old ++ comma_if later) ++ compact_text (string k)) ++ codes ":") ++ compact_text d =
    s ∙ ap (λ (t : List ℕ). t ++ compact_text d) (r ∙ ap (λ (t : List ℕ). t ++ codes ":") (q ∙ ap (λ (t : List ℕ). t ++ compact_text (string k)) p)) in
    ap (λ (t : List ℕ). t ++ members_text true ms) all ∙ field_joined old (comma_if later) (compact_text (string k)) (codes ":") (compact_text d) (members_text true ms)

pair_joined : (o x a k c v e m : List ℕ) → ((((((o ++ x) ++ a) ++ k) ++ c) ++ v) ++ e) ++ m ≡ o ++ (x ++ ((a ++ (k ++ (c ++ (v ++ e)))) ++ m))
pair_joined o x a k c v e m = simp append_assoc

-- the same of a pair
pub pair_pushed : (old a b c d e new : List ℕ) (later : Bool) (k v : Data) (ds : Items) → a ≡ old ++ comma_if later → b ≡ a ++ codes "[" → c ≡ b ++ compact_text k → d ≡ c ++ codes "," → e ≡ d ++ compact_text v → new ≡ e ++ codes "]"
    → new ++ items_text true ds ≡ old ++ items_text later (item (array (item k (item v no_items))) ds)
pair_pushed old a b c d e new later k v ds p q r s t u =
    let all : new ≡ (((((old ++ comma_if later) ++ codes "[") ++ compact_text k) ++ codes ",") ++ compact_text v) ++ codes "]" =
    u ∙ ap (λ (w : List ℕ). w ++ codes "]") (t ∙ ap (λ (w : List ℕ). w ++ compact_text v) (s ∙ ap (λ (w : List ℕ). w ++ codes ",") (r ∙ ap (λ (w : List ℕ). w ++ compact_text k) (q ∙ ap (λ (w : List ℕ). w ++ codes "[") p)))) in
    ap (λ (w : List ℕ). w ++ items_text true ds) all ∙ pair_joined old (comma_if later) (codes "[") (compact_text k) (codes ",") (compact_text v) (codes "]") (items_text true ds)

-- three pieces behind a text
pub three_pushed : (old a b new x y z whole : List ℕ) → a ≡ old ++ x → b ≡ a ++ y → new ≡ b ++ z → x ++ (y ++ z) ≡ whole → new ≡ old ++ whole
three_pushed old a b new x y z whole p q r e =
    r ∙ ap (λ (t : List ℕ). t ++ z) (q ∙ ap (λ (t : List ℕ). t ++ y) p) ∙ append_assoc (old ++ x) y z ∙ append_assoc old x (y ++ z) ∙ ap (λ (t : List ℕ). old ++ t) e

module _ {X : Type 0} where
  pub none_left : (xs : List X) (i : ℕ) → length xs ≤ i → drop i xs ≡ []
  none_left [] zero h = refl
  none_left [] (suc i) h = refl
  none_left (x ∷ xs) zero h = absurd (omega (arith, h))
  none_left (x ∷ xs) (suc i) h = none_left xs i (omega (arith, h))

-- the bracket behind the last item
pub items_ended : (text new whole : List ℕ) (later : Bool) (ds : Items) → ds ≡ no_items → text ++ items_text later ds ≡ whole → new ≡ text ++ codes "]" → new ≡ whole
items_ended text new whole later ds e h p = p ∙ subst (λ (is : Items). text ++ items_text later is ≡ whole) e h

pub members_ended : (text new whole : List ℕ) (later : Bool) (ms : Members) → ms ≡ no_members → text ++ members_text later ms ≡ whole → new ≡ text ++ codes "}" → new ≡ whole
members_ended text new whole later ms e h p = p ∙ subst (λ (ns : Members). text ++ members_text later ns ≡ whole) e h

one_more : (n : ℕ) → suc n ≡ n + 1
one_more n = omega arith

rest_of_members : (vs : List Val) (i : ℕ) (v : Val) → slice_get vs i ≡ Some v → print_members (vals_of (drop i vs)) ≡ item (prints v) (print_members (vals_of (drop (suc i) vs)))
rest_of_members [] i v e = cc
rest_of_members (u ∷ us) zero v e = let same : u ≡ v = cc in ap (λ (w : Val). item (prints w) (print_members (vals_of us))) same
rest_of_members (u ∷ us) (suc i) v e = rest_of_members us i v e

pub rest_members : (vs : List Val) (i : ℕ) (v : Val) → slice_get vs i ≡ Some v → print_members (vals_of (drop i vs)) ≡ item (prints v) (print_members (vals_of (drop (i + 1) vs)))
rest_members vs i v e = subst (λ (n : ℕ). print_members (vals_of (drop i vs)) ≡ item (prints v) (print_members (vals_of (drop n vs)))) (one_more i) (rest_of_members vs i v e)

rest_of_values : (ps : List (Val × Val)) (i : ℕ) (v : Val) → slice_get (map (λ (p : Val × Val). p.1) ps) i ≡ Some v → print_values (pairs_of (drop i ps)) ≡ item (prints v) (print_values (pairs_of (drop (suc i) ps)))
rest_of_values [] i v e = cc
rest_of_values (p ∷ ps) zero v e = let same : p.1 ≡ v = cc in ap (λ (w : Val). item (prints w) (print_values (pairs_of ps))) same
rest_of_values (p ∷ ps) (suc i) v e = rest_of_values ps i v e

pub rest_values : (ps : List (Val × Val)) (i : ℕ) (v : Val) → slice_get (map (λ (p : Val × Val). p.1) ps) i ≡ Some v → print_values (pairs_of (drop i ps)) ≡ item (prints v) (print_values (pairs_of (drop (i + 1) ps)))
rest_values ps i v e = subst (λ (n : ℕ). print_values (pairs_of (drop i ps)) ≡ item (prints v) (print_values (pairs_of (drop n ps)))) (one_more i) (rest_of_values ps i v e)

rest_of_pairs : (ps : List (Val × Val)) (i : ℕ) (k v : Val) → slice_get (map (λ (p : Val × Val). p.0) ps) i ≡ Some k → slice_get (map (λ (p : Val × Val). p.1) ps) i ≡ Some v
    → print_pairs (pairs_of (drop i ps)) ≡ item (array (item (prints k) (item (prints v) no_items))) (print_pairs (pairs_of (drop (suc i) ps)))
rest_of_pairs [] i k v e f = cc
rest_of_pairs (p ∷ ps) zero k v e f =
    let a : p.0 ≡ k = cc in let b : p.1 ≡ v = cc in
    λ j. item (array (item (prints (a j)) (item (prints (b j)) no_items))) (print_pairs (pairs_of ps))
rest_of_pairs (p ∷ ps) (suc i) k v e f = rest_of_pairs ps i k v e f

pub rest_pairs : (ps : List (Val × Val)) (i : ℕ) (k v : Val) → slice_get (map (λ (p : Val × Val). p.0) ps) i ≡ Some k → slice_get (map (λ (p : Val × Val). p.1) ps) i ≡ Some v
    → print_pairs (pairs_of (drop i ps)) ≡ item (array (item (prints k) (item (prints v) no_items))) (print_pairs (pairs_of (drop (i + 1) ps)))
rest_pairs ps i k v e f = subst (λ (n : ℕ). print_pairs (pairs_of (drop i ps)) ≡ item (array (item (prints k) (item (prints v) no_items))) (print_pairs (pairs_of (drop n ps)))) (one_more i) (rest_of_pairs ps i k v e f)

rest_of_fields : (ps : List (Val × Val)) (i : ℕ) (k v : Val) → slice_get (map (λ (p : Val × Val). p.0) ps) i ≡ Some k → slice_get (map (λ (p : Val × Val). p.1) ps) i ≡ Some v
    → print_fields (pairs_of (drop i ps)) ≡ member (name_of k) (prints v) (print_fields (pairs_of (drop (suc i) ps)))
rest_of_fields [] i k v e f = cc
rest_of_fields (p ∷ ps) zero k v e f =
    let a : p.0 ≡ k = cc in let b : p.1 ≡ v = cc in
    λ j. member (name_of (a j)) (prints (b j)) (print_fields (pairs_of ps))
rest_of_fields (p ∷ ps) (suc i) k v e f = rest_of_fields ps i k v e f

pub rest_fields : (ps : List (Val × Val)) (i : ℕ) (k v : Val) → slice_get (map (λ (p : Val × Val). p.0) ps) i ≡ Some k → slice_get (map (λ (p : Val × Val). p.1) ps) i ≡ Some v
    → print_fields (pairs_of (drop i ps)) ≡ member (name_of k) (prints v) (print_fields (pairs_of (drop (i + 1) ps)))
rest_fields ps i k v e f = subst (λ (n : ℕ). print_fields (pairs_of (drop i ps)) ≡ member (name_of k) (prints v) (print_fields (pairs_of (drop n ps)))) (one_more i) (rest_of_fields ps i k v e f)

-- what the last push leaves
pub on_pushed : (r : Result (Unit {0}) AllocError) (new old s whole : List ℕ) → new ≡ (if is_ok r then old ++ s else old) → (new ≡ old ++ s → new ≡ whole) → OnOk r (new ≡ whole)
on_pushed (Ok u) new old s whole e f = f e
on_pushed (Err x) new old s whole e f = tt

pub on_ok : (r : Result (Unit {0}) AllocError) {P Q : Type 0} → (P → Q) → OnOk r P → OnOk r Q
on_ok (Ok u) f p = f p
on_ok (Err x) f p = tt
