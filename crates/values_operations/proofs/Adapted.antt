-- The functions on a set, the tuples and the records are functions with a member of a part at each key.
use Rattle.std.proofs.Common.{◌≡◌, ◌↔◌, inl, inr, ℕ, zero, suc, ◌+◌, ◌<◌, ◌≤◌, ℤ, pos, List, [], ◌∷◌, length, map, replicate, get_or, drop, add-one, Result, Err, ap, sym, ◌∙◌, subst, refl, arith}
use Rattle.std.specs.Prelude.{◌+ℤ◌, ◌≤ℤ◌, ◌<ℤ◌}
use Rattle.std.specs.List.Sorted.{IsStrictlySortedBy}
use Rattle.std.specs.List.{Contains, zip}
use Rattle.std.proofs.lemmas.Int.{ints}
use Rattle.std.proofs.lemmas.List.{length-replicate}
use Rattle.std.proofs.lemmas.Slice.Zip.{firsts-zip}
use Rattle.values_core.specs.Data.{Val, model, truth, integer, string, set, function, pairs_of, depth}
use Rattle.std.specs.Prelude.{Option, Some, None}
use Rattle.values_core.specs.Ascending.{cons_cases, head_in, tail_in, none_in, ascending_unique}
use Rattle.values_core.specs.Order.{val_cmp}
use Rattle.values_core.specs.OrderLaws.{val_total}
use Rattle.values_core.specs.IsValue.{IsValue}
use Rattle.values_core.specs.Sets.{IsSet, Member, items_of}
use Rattle.values_core.specs.SetLaws.{ordered}
use Rattle.values_core.specs.SetOperations.{AreDifferent}
use Rattle.values_core.specs.Functions.{IsFunction, IsFunctionOf, InDomain, HasPair, pairs_in, keys_in, values_in, numbered_from}
use Rattle.values_core.specs.FunctionLaws.{function_is, keys_ordered, pairs_ordered, pairs_ascending, key_cmp, key_total, key_in, in_keys, entries-pairs_of, one_value_at_key}
use Rattle.values_core.specs.Products.{AreOneOfEach, InFunctionSet, InProduct, InRecordSet, HasFields, IsName, OnAllSets}
use Rattle.values_core.specs.declared.fault.EvalKind.TheVariants.{NotSet}
use Rattle.values_core.specs.declared.fault.OpFault.{OpFault}
use Rattle.values_core.specs.declared.fault.OpFault.TheVariants.{Refused}
use Rattle.values_operations.specs.Choices.{AreKeysAndParts, IsChoice, IsInner}
use Rattle.values_operations.specs.Listed.{ints_from}
use Rattle.values_operations.specs.NoSet.{no_set_from}
use Rattle.values_operations.proofs.Choosing.{as_many, key_of_zip}
use Rattle.values_operations.proofs.Intervals.{ascending_ints, in_ints, length-ints}
use Rattle.values_operations.proofs.Listing.{ascending_different}
use Rattle.values_operations.proofs.Made.{member_inner, sorted_none}
use Rattle.values_operations.proofs.Taking.{few_items}
use Rattle.values_operations.proofs.Walking.{first_drop}
use Rattle.values_operations.proofs.Ways.{of_a_part, value_of_zip, length-chosen}

-- one set for all keys
in_replicate : (n : ℕ) (c p : Val) → Contains (replicate n c) p → c ≡ p
in_replicate zero c p h = absurd (none_in p h)
in_replicate (suc n) c p h = elim (cons_cases c (replicate n c) p h) [
  | inl e ↦ e
  | inr g ↦ in_replicate n c p g
]

all_of_one : (vs : List Val) (c : Val) → ((v : Val) → Contains vs v → Member v c) → AreOneOfEach vs (replicate (length vs) c)
all_of_one [] c f = tt
all_of_one (v ∷ vs) c f = (f v (head_in v vs), all_of_one vs c (λ w h. f w (tail_in v vs w h)))

pub domain_and_range : (d c : Val) → IsValue d → IsSet d → IsValue c → IsSet c → AreKeysAndParts (items_of d) (replicate (length (items_of d)) c)
domain_and_range d c p h q k = record {
  as_many = length-replicate (length (items_of d)) c;
  few = few_items d p;
  different = ascending_different val_cmp val_total (items_of d) (ordered d p h).ascending;
  inner = λ v g. member_inner d v p g;
  valid = λ v g. subst (λ (w : Val). IsValue w) (in_replicate (length (items_of d)) c v g) q;
  sets = λ v g. subst (λ (w : Val). IsSet w) (in_replicate (length (items_of d)) c v g) k;
}

zip_halves : (ps : List (Val × Val)) → zip (map (λ p. p.0) ps) (map (λ p. p.1) ps) ≡ ps
zip_halves [] = refl
zip_halves (p ∷ ps) = ap (λ qs. p ∷ qs) (zip_halves ps)

halves_length : (ps : List (Val × Val)) → length (map (λ p. p.1) ps) ≡ length (map (λ p. p.0) ps)
halves_length [] = refl
halves_length (p ∷ ps) = ap suc (halves_length ps)

-- keys of a function with these pairs
domain_is : (ks vs : List Val) (f key : Val) → length vs ≡ length ks → IsFunctionOf (zip ks vs) f → InDomain key f ↔ Contains ks key
domain_is ks vs f key l o = (
  λ h. let w = key_in (pairs_in f) key h in key_of_zip ks vs (key, w.0) l ((o.same key w.0).0 w.1),
  λ h. let w = key_in (zip ks vs) key (subst (λ (js : List Val). Contains js key) (sym (firsts-zip ks vs l)) h) in in_keys (pairs_in f) (key, w.0) ((o.same key w.0).1 w.1),
)

at_value : (ps : List (Val × Val)) (v : Val) → Contains (map (λ p. p.1) ps) v → (key : Val) × Contains ps (key, v)
at_value [] v g = absurd (none_in v g)
at_value (r ∷ rs) v g = elim (cons_cases r.1 (map (λ s. s.1) rs) v g) [
  | inl e ↦ (r.0, subst (λ (w : Val). Contains (r ∷ rs) (r.0, w)) e (head_in r rs))
  | inr i ↦ let w = at_value rs v i in (w.0, tail_in r rs (w.0, v) w.1)
]

-- the members of a value ascend
items_ascending : (d : Val) → IsValue d → IsStrictlySortedBy val_cmp (items_of d)
items_ascending (set vs) p = p.canonical.0.ascending
items_ascending (model s) p = sorted_none val_cmp
items_ascending (truth s) p = sorted_none val_cmp
items_ascending (integer s) p = sorted_none val_cmp
items_ascending (string s) p = sorted_none val_cmp
items_ascending (function s) p = sorted_none val_cmp

-- a function on the members of d
pub function_choice : (d c : Val) → IsValue d → (f : Val) → InFunctionSet d c f → IsChoice (items_of d) (replicate (length (items_of d)) c) f
function_choice d c p f (valid, is_function, domain, range) =
    let ks : keys_in f ≡ items_of d = ascending_unique val_cmp val_total (keys_in f) (items_of d) (keys_ordered f valid is_function).ascending (items_ascending d p) domain in
    let l : length (values_in f) ≡ length (items_of d) = halves_length (pairs_in f) ∙ ap (λ js. length js) ks in
    let pairs : zip (items_of d) (values_in f) ≡ pairs_in f = ap (λ js. zip js (values_in f)) (sym ks) ∙ zip_halves (pairs_in f) in (
      values_in f,
      subst (λ n. AreOneOfEach (values_in f) (replicate n c)) l (all_of_one (values_in f) c (λ v g. let w = at_value (pairs_in f) v g in range w.0 v w.1)),
      record { valid = valid; is_function = is_function; same = λ key v. subst (λ (ps : List (Val × Val)). Contains (pairs_in f) (key, v) ↔ Contains ps (key, v)) (sym pairs) (λ g. g, λ g. g) },
    )

pub in_function_set : (d c f : Val) → IsValue d → IsSet d → IsValue c → IsSet c → IsChoice (items_of d) (replicate (length (items_of d)) c) f ↔ InFunctionSet d c f
in_function_set d c f p h q k = (there, function_choice d c p f)
  where
    there : IsChoice (items_of d) (replicate (length (items_of d)) c) f → InFunctionSet d c f
    there (vs, one, o) =
        let l = length-chosen (items_of d) (replicate (length (items_of d)) c) vs (domain_and_range d c p h q k) one in (
          o.valid,
          o.is_function,
          (λ key. domain_is (items_of d) vs f key l o),
          λ key v g.
              let w = of_a_part (replicate (length (items_of d)) c) vs v one (value_of_zip (items_of d) vs (key, v) ((o.same key v).0 g)) in
              subst (λ (s : Val). Member v s) (sym (in_replicate (length (items_of d)) c w.0 w.1)) w.2,
        )

-- of several sets, each has its own key
pub on_all_sets : (n : ℕ) (ps : List Val) (Q : Result Val OpFault → Type 0) (r : Result Val OpFault) → no_set_from n ps ≡ None → Q r → OnAllSets n ps Q r
on_all_sets n [] Q r e q = q
on_all_sets n (set vs ∷ ps) Q r e q = on_all_sets (suc n) ps Q r e q
on_all_sets n (model s ∷ ps) Q r e q = cc
on_all_sets n (truth s ∷ ps) Q r e q = cc
on_all_sets n (integer s ∷ ps) Q r e q = cc
on_all_sets n (string s ∷ ps) Q r e q = cc
on_all_sets n (function s ∷ ps) Q r e q = cc

some_same : (d e : OpFault) → Some d ≡ Some e → d ≡ e
some_same d e p = ap (λ o. given o) p
  where
    given : Option OpFault → OpFault
    given (Some x) = x
    given None = d

pub not_all_sets : (n : ℕ) (ps : List Val) (Q : Result Val OpFault → Type 0) (e : OpFault) → no_set_from n ps ≡ Some e → OnAllSets n ps Q (Err e)
not_all_sets n [] Q e p = cc
not_all_sets n (set vs ∷ ps) Q e p = not_all_sets (suc n) ps Q e p
not_all_sets n (model s ∷ ps) Q e p = cc
not_all_sets n (truth s ∷ ps) Q e p = cc
not_all_sets n (integer s ∷ ps) Q e p = cc
not_all_sets n (string s ∷ ps) Q e p = cc
not_all_sets n (function s ∷ ps) Q e p = cc

all_are_sets : (n : ℕ) (ps : List Val) → no_set_from n ps ≡ None → (p : Val) → Contains ps p → IsSet p
all_are_sets n [] e p h = absurd (none_in p h)
all_are_sets n (set vs ∷ ps) e p h = elim (cons_cases (set vs) ps p h) [
  | inl f ↦ subst (λ (s : Val). IsSet s) f tt
  | inr g ↦ all_are_sets (suc n) ps e p g
]
all_are_sets n (model s ∷ ps) e p h = cc
all_are_sets n (truth s ∷ ps) e p h = cc
all_are_sets n (integer s ∷ ps) e p h = cc
all_are_sets n (string s ∷ ps) e p h = cc
all_are_sets n (function s ∷ ps) e p h = cc

-- the first set is passed, or it is none and is refused
pub pass_set : (n i : ℕ) (ps : List Val) (p : Val) → i < length ps → p ≡ get_or ps i p → IsSet p → no_set_from i (drop i ps) ≡ no_set_from (i + 1) (drop (i + 1) ps)
pass_set n i ps p h e s = ap (λ qs. no_set_from i qs) (first_drop ps i p h e) ∙ passed p (drop (i + 1) ps) s ∙ ap (λ k. no_set_from k (drop (i + 1) ps)) (sym (add-one i))
  where
    passed : (q : Val) (qs : List Val) → IsSet q → no_set_from i (q ∷ qs) ≡ no_set_from (suc i) qs
    passed (set vs) qs k = refl
    passed (model s) qs k = absurd k
    passed (truth s) qs k = absurd k
    passed (integer s) qs k = absurd k
    passed (string s) qs k = absurd k
    passed (function s) qs k = absurd k

pub stop_at : (i : ℕ) (ps : List Val) (p : Val) (e : OpFault) → i < length ps → p ≡ get_or ps i p → ¬ IsSet p → e ≡ Refused NotSet i → no_set_from i (drop i ps) ≡ Some e
stop_at i ps p e h f s g = ap (λ qs. no_set_from i qs) (first_drop ps i p h f) ∙ stopped p (drop (i + 1) ps) s ∙ ap Some (sym g)
  where
    stopped : (q : Val) (qs : List Val) → ¬ IsSet q → no_set_from i (q ∷ qs) ≡ Some (Refused NotSet i)
    stopped (set vs) qs k = absurd (k tt)
    stopped (model s) qs k = refl
    stopped (truth s) qs k = refl
    stopped (integer s) qs k = refl
    stopped (string s) qs k = refl
    stopped (function s) qs k = refl

pub integer_keys : (ps : List Val) (y : ℕ) → y ≤ 100000 → length ps ≡ y → no_set_from 0 ps ≡ None → ((p : Val) → Contains ps p → IsValue p) → AreKeysAndParts (ints_from (pos 1) y) ps
integer_keys ps y few l e valid = record {
  as_many = l ∙ sym (length-ints (pos 1) y);
  few = omega (arith, length-ints (pos 1) y, few);
  different = ascending_different val_cmp val_total (ints_from (pos 1) y) (ascending_ints (pos 1) y);
  inner = λ k h.
      let w = in_ints (pos 1) y k h in
      let low : pos 1 ≤ℤ w.0 = w.2 in
      let high : w.0 <ℤ (pos 1 +ℤ pos y) = w.3 in
      subst (λ (v : Val). IsInner v) (sym w.1) (small w.0 (omega (arith, ints, few)) (omega (arith, ints, few)));
  valid = valid;
  sets = all_are_sets 0 ps e;
}
  where
    small : (z : ℤ) → pos 0 ≤ℤ z → z ≤ℤ pos 100000 → IsInner (integer z)
    small z a b = record { valid = record { canonical = omega (arith, ints, a, b); shallow = omega arith }; shallow = omega arith }

zip_ints : (vs : List Val) (y : ℤ) (m : ℕ) → y ≡ pos m → zip (ints_from y (length vs)) vs ≡ numbered_from m vs
zip_ints [] y m e = refl
zip_ints (v ∷ vs) y m e =
    let next : y +ℤ pos 1 ≡ pos (suc m) = omega (arith, ints, e) in
    let head : ◌≡◌ {A = Val × Val} (integer y, v) (integer (pos m), v) = λ i. (integer (e i), v) in
    let tail : zip (ints_from (y +ℤ pos 1) (length vs)) vs ≡ numbered_from (suc m) vs = zip_ints vs (y +ℤ pos 1) (suc m) next in
    λ i. head i ∷ tail i

pub in_product : (ps : List Val) (y : ℕ) (f : Val) → length ps ≡ y → IsChoice (ints_from (pos 1) y) ps f ↔ InProduct ps f
in_product ps y f l = (there, back)
  where
    pairs_are : (vs : List Val) → AreOneOfEach vs ps → zip (ints_from (pos 1) y) vs ≡ numbered_from 1 vs
    pairs_are vs one = ap (λ n. zip (ints_from (pos 1) n) vs) (sym (as_many ps vs one ∙ l)) ∙ zip_ints vs (pos 1) 1 refl

    there : IsChoice (ints_from (pos 1) y) ps f → InProduct ps f
    there (vs, one, o) =
        let many : length vs ≡ length (ints_from (pos 1) y) = as_many ps vs one ∙ l ∙ sym (length-ints (pos 1) y) in
        let sorted = pairs_ascending (zip (ints_from (pos 1) y) vs) (subst (λ (ks : List Val). IsStrictlySortedBy val_cmp ks) (sym (firsts-zip (ints_from (pos 1) y) vs many)) (ascending_ints (pos 1) y)) in
        let same : pairs_in f ≡ zip (ints_from (pos 1) y) vs = ascending_unique key_cmp key_total (pairs_in f) (zip (ints_from (pos 1) y) vs) (pairs_ordered f o.valid) sorted (λ r. o.same r.0 r.1) in
        (o.valid, (vs, function_is f o.is_function ∙ ap (λ rs. function (pairs_of rs)) (same ∙ pairs_are vs one), one))

    back : InProduct ps f → IsChoice (ints_from (pos 1) y) ps f
    back (valid, (vs, e, one)) =
        let same : pairs_in f ≡ zip (ints_from (pos 1) y) vs = ap pairs_in e ∙ entries-pairs_of (numbered_from 1 vs) ∙ sym (pairs_are vs one) in
        (vs, one, record { valid = valid; is_function = subst (λ (g : Val). IsFunction g) (sym e) tt; same = λ key v. subst (λ (rs : List (Val × Val)). Contains (pairs_in f) (key, v) ↔ Contains rs (key, v)) same (λ h. h, λ h. h) })

string_in : (ns : List (List ℕ)) (n : List ℕ) → Contains (map string ns) (string n) → Contains ns n
string_in [] n h = absurd (none_in (string n) h)
string_in (m ∷ ms) n h = elim (cons_cases (string m) (map string ms) (string n) h) [
  | inl e ↦ subst (λ (k : List ℕ). Contains (m ∷ ms) k) (ap text e) (head_in m ms)
  | inr g ↦ tail_in m ms n (string_in ms n g)
]
  where
    text : Val → List ℕ
    text (string s) = s
    text v = []

strings_different : (ns : List (List ℕ)) → AreDifferent ns → AreDifferent (map string ns)
strings_different [] d = tt
strings_different (n ∷ ns) d = (λ h. d.0 (string_in ns n h), strings_different ns d.1)

string_inner : (ns : List (List ℕ)) (k : Val) → Contains (map string ns) k → IsValue k → IsInner k
string_inner [] k h v = absurd (none_in k h)
string_inner (n ∷ ns) k h v = elim (cons_cases (string n) (map string ns) k h) [
  | inl e ↦ record { valid = v; shallow = subst (λ (w : Val). depth w ≤ 31) e (omega arith) }
  | inr g ↦ string_inner ns k g v
]

length-strings : (ns : List (List ℕ)) → length (map string ns) ≡ length ns
length-strings [] = refl
length-strings (n ∷ ns) = ap suc (length-strings ns)

pub string_keys : (ns : List (List ℕ)) (ps : List Val) → length ps ≤ 100000 → length ns ≡ length ps → AreDifferent ns → no_set_from 0 ps ≡ None → ((p : Val) → Contains ps p → IsValue p) → ((k : Val) → Contains (map string ns) k → IsValue k) → AreKeysAndParts (map string ns) ps
string_keys ns ps few l d e valid values = record {
  as_many = sym l ∙ sym (length-strings ns);
  few = omega (arith, length-strings ns, l, few);
  different = strings_different ns d;
  inner = λ k h. string_inner ns k h (values k h);
  valid = valid;
  sets = all_are_sets 0 ps e;
}

is_name : (ns : List (List ℕ)) (k : Val) → Contains (map string ns) k → IsName ns k
is_name [] k h = absurd (none_in k h)
is_name (n ∷ ns) k h = elim (cons_cases (string n) (map string ns) k h) [
  | inl e ↦ inl (sym e)
  | inr g ↦ inr (is_name ns k g)
]

name_in : (ns : List (List ℕ)) (k : Val) → IsName ns k → Contains (map string ns) k
name_in [] k h = absurd h
name_in (n ∷ ns) k (inl e) = subst (λ (w : Val). Contains (string n ∷ map string ns) w) (sym e) (head_in (string n) (map string ns))
name_in (n ∷ ns) k (inr h) = tail_in (string n) (map string ns) k (name_in ns k h)

fields_of : (ns : List (List ℕ)) (ps vs : List Val) (f : Val) → length ns ≡ length ps → AreOneOfEach vs ps → ((r : Val × Val) → Contains (zip (map string ns) vs) r → HasPair f r.0 r.1) → HasFields ns ps f
fields_of [] ps vs f l one g = tt
fields_of (n ∷ ns) [] vs f l one g = absurd (omega (arith, l))
fields_of (n ∷ ns) (p ∷ ps) [] f l one g = absurd one
fields_of (n ∷ ns) (p ∷ ps) (v ∷ vs) f l one g =
    let here : HasPair f (string n) v = g (string n, v) (head_in (string n, v) (zip (map string ns) vs)) in
    let fewer : length ns ≡ length ps = omega (arith, l) in
    ((v, here, one.0), fields_of ns ps vs f fewer one.1 (λ r h. g r (tail_in (string n, v) (zip (map string ns) vs) r h)))

values_of : (ns : List (List ℕ)) (ps : List Val) (f : Val) → length ns ≡ length ps → HasFields ns ps f → (vs : List Val) × AreOneOfEach vs ps × ((r : Val × Val) → Contains (zip (map string ns) vs) r → HasPair f r.0 r.1)
values_of [] [] f l h = ([], tt, λ r g. absurd (none_in r g))
values_of [] (p ∷ ps) f l h = absurd (omega (arith, l))
values_of (n ∷ ns) [] f l h = absurd h
values_of (n ∷ ns) (p ∷ ps) f l h =
    let fewer : length ns ≡ length ps = omega (arith, l) in
    let w = values_of ns ps f fewer h.1 in (
      h.0.0 ∷ w.0,
      (h.0.2, w.1),
      λ r g. elim (cons_cases (string n, h.0.0) (zip (map string ns) w.0) r g) [
        | inl e ↦ subst (λ (s : Val × Val). HasPair f s.0 s.1) e h.0.1
        | inr i ↦ w.2 r i
      ],
    )

pub in_record_set : (ns : List (List ℕ)) (ps : List Val) (f : Val) → length ns ≡ length ps → IsChoice (map string ns) ps f ↔ InRecordSet ns ps f
in_record_set ns ps f l = (there, back)
  where
    there : IsChoice (map string ns) ps f → InRecordSet ns ps f
    there (vs, one, o) =
        let many : length vs ≡ length (map string ns) = as_many ps vs one ∙ sym l ∙ sym (length-strings ns) in
        (o.valid, o.is_function, fields_of ns ps vs f l one (λ r h. (o.same r.0 r.1).1 h), λ key h. is_name ns key ((domain_is (map string ns) vs f key many o).0 h))

    back : InRecordSet ns ps f → IsChoice (map string ns) ps f
    back (valid, is_function, fields, names) =
        let w = values_of ns ps f l fields in
        let many : length w.0 ≡ length (map string ns) = as_many ps w.0 w.1 ∙ sym l ∙ sym (length-strings ns) in (
          w.0,
          w.1,
          record {
            valid = valid;
            is_function = is_function;
            same = λ key v. (
              λ h.
                  let named = name_in ns key (names key (in_keys (pairs_in f) (key, v) h)) in
                  let there = key_in (zip (map string ns) w.0) key (subst (λ (ks : List Val). Contains ks key) (sym (firsts-zip (map string ns) w.0 many)) named) in
                  subst (λ (u : Val). Contains (zip (map string ns) w.0) (key, u)) (one_value_at_key f key there.0 v valid (w.2 (key, there.0) there.1) h) there.1,
              λ h. w.2 (key, v) h,
            );
          },
        )
