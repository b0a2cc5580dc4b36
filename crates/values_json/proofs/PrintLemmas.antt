-- Lists of JSON that are made one by one.
use Rattle.std.proofs.Common.{◌≡◌, ℕ, zero, suc, ◌+◌, List, [], ◌∷◌, ◌++◌, map, take, length, Bool, true, false, ◌&&◌, if◌then◌else◌, codes, Some, String, Global, string_bytes, string_cmp, pos, Less, Greater, nat_cmp, ap, sym, ◌∙◌, subst, refl, arith}
use Rattle.std.specs.BTreeMap.{insert_entry}
use Rattle.std.specs.Cmp.Lexicographic.{slice_cmp}
use Rattle.std.specs.List.{slice_get, AllByRecursion, list_all}
use Rattle.std.specs.List.Sorted.{IsStrictlySortedBy}
use Rattle.std.specs.Ordering.{ordering_reverse}
use Rattle.std.proofs.lemmas.Cmp.{nat_list_cmp_total}
use Rattle.std.proofs.lemmas.List.{length-map}
use Rattle.serde_json.specs.Data.{Data, array, object, Items, no_items, item, no_members, member, put}
use Rattle.serde_json.specs.View.{view, items_view, members_view}
use Rattle.serde_json.specs.declared.value.Value.{Value}
use Rattle.serde_json.proofs.Views.{Entry, members_view-insert_entry}
use Rattle.values_core.specs.Data.{Val, model, truth, integer, string, set, function, Vals, no_vals, more_vals, Pairs, no_pairs, more_pairs, pairs_of, vals_of, entries, members}
use Rattle.values_core.specs.Functions.{IsFunction, IsSequence, numbered_from, pairs_in, keys_in, values_in}
use Rattle.values_core.specs.FunctionLaws.{entries-pairs_of, pairs_of-entries}
use Rattle.values_core.specs.Order.{val_cmp, val_eq}
use Rattle.values_core.specs.OrderLaws.{val_eq_equiv}
use Rattle.values_core.specs.Sets.{IsSet, items_of, count_of}
use Rattle.values_json.specs.Prints.{prints, print_members, print_values, print_fields, print_pairs, are_numbered, are_named, is_name, name_of, marked}
use Rattle.values_json.proofs.ReadBack.{numbered_is}

-- the items with one more
abbrev pub with_last : Items → Data → Items
with_last no_items d = item d no_items
with_last (item e ds) d = item e (with_last ds d)

pub items_view-append : (js : List Value) (j : Value) → items_view (js ++ j ∷ []) ≡ with_last (items_view js) (view j)
items_view-append [] j = refl
items_view-append (i ∷ is) j = ap (item (view i)) (items_view-append is j)

pub members_last : (vs : List Val) (i : ℕ) (v : Val) → slice_get vs i ≡ Some v → print_members (vals_of (take (suc i) vs)) ≡ with_last (print_members (vals_of (take i vs))) (prints v)
members_last [] i v e = cc
members_last (u ∷ us) zero v e = let same : u ≡ v = cc in ap (λ (w : Val). item (prints w) no_items) same
members_last (u ∷ us) (suc i) v e = ap (item (prints u)) (members_last us i v e)

pub values_last : (ps : List (Val × Val)) (i : ℕ) (v : Val) → slice_get (map (λ (p : Val × Val). p.1) ps) i ≡ Some v
    → print_values (pairs_of (take (suc i) ps)) ≡ with_last (print_values (pairs_of (take i ps))) (prints v)
values_last [] i v e = cc
values_last (p ∷ ps) zero v e = let same : p.1 ≡ v = cc in ap (λ (w : Val). item (prints w) no_items) same
values_last (p ∷ ps) (suc i) v e = ap (item (prints p.1)) (values_last ps i v e)

pub pairs_last : (ps : List (Val × Val)) (i : ℕ) (k v : Val) → slice_get (map (λ (p : Val × Val). p.0) ps) i ≡ Some k → slice_get (map (λ (p : Val × Val). p.1) ps) i ≡ Some v
    → print_pairs (pairs_of (take (suc i) ps)) ≡ with_last (print_pairs (pairs_of (take i ps))) (array (item (prints k) (item (prints v) no_items)))
pairs_last [] i k v e f = cc
pairs_last (p ∷ ps) zero k v e f =
    let a : p.0 ≡ k = cc in let b : p.1 ≡ v = cc in
    λ j. item (array (item (prints (a j)) (item (prints (b j)) no_items))) no_items
pairs_last (p ∷ ps) (suc i) k v e f = ap (item (array (item (prints p.0) (item (prints p.1) no_items)))) (pairs_last ps i k v e f)

pub named-list_all : (ps : List (Val × Val)) → are_named (pairs_of ps) ≡ list_all is_name (map (λ (p : Val × Val). p.0) ps)
named-list_all [] = refl
named-list_all (p ∷ ps) = ap (λ (b : Bool). is_name p.0 && b) (named-list_all ps)

both : (a b : Bool) → (a && b) ≡ true → (a ≡ true) × (b ≡ true)
both true true e = (refl, refl)
both true false e = cc
both false b e = cc

-- of two names the text is in the order of the values
name_cmp : (a b : Val) → is_name a ≡ true → is_name b ≡ true → val_cmp a b ≡ Less → slice_cmp nat_cmp (name_of a) (name_of b) ≡ Less
unfolding val_cmp
name_cmp (string s) (string t) p q e = e
name_cmp (string s) (model t) p q e = cc
name_cmp (string s) (truth t) p q e = cc
name_cmp (string s) (integer t) p q e = cc
name_cmp (string s) (set t) p q e = cc
name_cmp (string s) (function t) p q e = cc
name_cmp (model s) b p q e = cc
name_cmp (truth s) b p q e = cc
name_cmp (integer s) b p q e = cc
name_cmp (set s) b p q e = cc
name_cmp (function s) b p q e = cc

name_at : (ks : List Val) (i : ℕ) (k : Val) → list_all is_name ks ≡ true → slice_get ks i ≡ Some k → is_name k ≡ true
name_at [] i k h e = cc
name_at (l ∷ ls) zero k h e = let same : l ≡ k = cc in subst (λ (w : Val). is_name w ≡ true) same (both (is_name l) (list_all is_name ls) h).0
name_at (l ∷ ls) (suc i) k h e = name_at ls i k (both (is_name l) (list_all is_name ls) h).1 e

below_at : (l : Val) (ks : List Val) (i : ℕ) (k : Val) → AllByRecursion (λ y. val_cmp l y ≡ Less) ks → slice_get ks i ≡ Some k → val_cmp l k ≡ Less
below_at l [] i k h e = cc
below_at l (m ∷ ms) zero k h e = let same : m ≡ k = cc in subst (λ (w : Val). val_cmp l w ≡ Less) same h.0
below_at l (m ∷ ms) (suc i) k h e = below_at l ms i k h.1 e

-- the next field of a record goes last
pub fields_last : (ps : List (Val × Val)) (i : ℕ) (k v : Val) → IsStrictlySortedBy val_cmp (map (λ (p : Val × Val). p.0) ps) → list_all is_name (map (λ (p : Val × Val). p.0) ps) ≡ true
    → slice_get (map (λ (p : Val × Val). p.0) ps) i ≡ Some k → slice_get (map (λ (p : Val × Val). p.1) ps) i ≡ Some v
    → put (name_of k) (prints v) (print_fields (pairs_of (take i ps))) ≡ print_fields (pairs_of (take (suc i) ps))
unfolding IsStrictlySortedBy
fields_last [] i k v s h e f = cc
fields_last (p ∷ ps) zero k v s h e f =
    let a : p.0 ≡ k = cc in let b : p.1 ≡ v = cc in
    λ j. member (name_of (sym a j)) (prints (sym b j)) no_members
fields_last (p ∷ ps) (suc i) k v s h e f =
    let ks = map (λ (q : Val × Val). q.0) ps in
    let names = both (is_name p.0) (list_all is_name ks) h in
    let less = name_cmp p.0 k names.0 (name_at ks i k names.1 e) (below_at p.0 ks i k s.0 e) in
    let above : slice_cmp nat_cmp (name_of k) (name_of p.0) ≡ Greater = nat_list_cmp_total.antisymm (name_of k) (name_of p.0) ∙ ap ordering_reverse less in
    rw above (ap (member (name_of p.0) (prints p.1)) (fields_last ps i k v s.1 names.1 e f))

pub one_more : (n : ℕ) → suc n ≡ n + 1
one_more n = omega arith

pub take_last : (vs : List Val) (i : ℕ) (v : Val) → slice_get vs i ≡ Some v → take (suc i) vs ≡ take i vs ++ v ∷ []
take_last [] i v e = cc
take_last (u ∷ us) zero v e = let same : u ≡ v = cc in ap (λ (w : Val). w ∷ []) same
take_last (u ∷ us) (suc i) v e = ap (λ (ws : List Val). u ∷ ws) (take_last us i v e)

-- a list with one JSON more
pub items_step : (js : List Value) (j : Value) (all : List Value) (before after : Items) (d : Data) → items_view js ≡ before → view j ≡ d → all ≡ js ++ j ∷ [] → after ≡ with_last before d → items_view all ≡ after
items_step js j all before after d p q e last = ap items_view e ∙ items_view-append js j ∙ (λ k. with_last (p k) (q k)) ∙ sym last

-- an object with one field more
pub fields_step : (old new : List Entry) (name : String Global) (j : Value) (ps : List (Val × Val)) (i : ℕ) (k v : Val)
    → IsStrictlySortedBy val_cmp (map (λ (p : Val × Val). p.0) ps) → list_all is_name (map (λ (p : Val × Val). p.0) ps) ≡ true
    → slice_get (map (λ (p : Val × Val). p.0) ps) i ≡ Some k → slice_get (map (λ (p : Val × Val). p.1) ps) i ≡ Some v
    → new ≡ insert_entry string_cmp old name j → string_bytes name ≡ name_of k → view j ≡ prints v → members_view old ≡ print_fields (pairs_of (take i ps))
    → members_view new ≡ print_fields (pairs_of (take (i + 1) ps))
fields_step old new name j ps i k v s h e f inserted named seen done =
    subst (λ (n : ℕ). members_view new ≡ print_fields (pairs_of (take n ps))) (one_more i)
    (ap members_view inserted ∙ members_view-insert_entry old name j ∙ (λ m. put (named m) (seen m) (done m)) ∙ fields_last ps i k v s h e f)

-- a function that is no sequence, by its pairs
pub keyed_is : (ps : List (Val × Val)) (a b : Data) (d : Data) (named : Bool) → list_all is_name (map (λ (p : Val × Val). p.0) ps) ≡ named → d ≡ (if named then a else b) → d ≡ (if are_named (pairs_of ps) then a else b)
keyed_is ps a b d named e f = f ∙ ap (λ (c : Bool). if c then a else b) (sym e ∙ sym (named-list_all ps))

heads_are : (p q : Val × Val) (ps qs : List (Val × Val)) → p ∷ ps ≡ q ∷ qs → (p ≡ q) × (ps ≡ qs)
heads_are p q ps qs e = ((cc), (cc))

numbered_true : (n : ℕ) (ps : Pairs) (vs : List Val) → entries ps ≡ numbered_from n vs → are_numbered n ps ≡ true
numbered_true n no_pairs vs e = refl
numbered_true n (more_pairs k v ps) [] e = cc
numbered_true n (more_pairs k v ps) (w ∷ ws) e =
    let here = heads_are (k, v) (integer (pos n), w) (entries ps) (numbered_from (suc n) ws) e in
    let key : k ≡ integer (pos n) = ap (λ (p : Val × Val). p.0) here.0 in
    let rest : entries ps ≡ numbered_from (suc n) ws = here.1 in
    rw (key, numbered_true (suc n) ps ws rest) (both_true (val_eq (integer (pos n)) (integer (pos n))) (val_eq_equiv.refl (integer (pos n))))
  where
    both_true : (b : Bool) → b ≡ true → (b && true) ≡ true
    both_true true h = refl
    both_true false h = cc

-- a sequence is printed as an array
pub sequence_prints : (f : Val) (ds : Items) → IsSequence f → ds ≡ print_values (pairs_of (pairs_in f)) → array ds ≡ prints f
sequence_prints (function ps) ds s e =
    let inside : entries ps ≡ numbered_from 1 (values_in (function ps)) = ap pairs_in s ∙ entries-pairs_of (numbered_from 1 (values_in (function ps))) in
    let same : ds ≡ print_values ps = e ∙ ap print_values (pairs_of-entries ps) in
    ap array same ∙ either (are_numbered 1 ps) (numbered_true 1 ps (values_in (function ps)) inside)
  where
    either : (b : Bool) → b ≡ true → array (print_values ps) ≡ (if b then array (print_values ps) else (if are_named ps then object (print_fields ps) else marked (codes "$fun") (array (print_pairs ps))))
    either true h = refl
    either false h = cc
sequence_prints (model s) ds h e = cc
sequence_prints (truth s) ds h e = cc
sequence_prints (integer s) ds h e = cc
sequence_prints (string s) ds h e = cc
sequence_prints (set s) ds h e = cc

-- another function is printed by its keys
pub keyed_prints : (f : Val) (d : Data) → IsFunction f → (IsSequence f → ⊥)
    → d ≡ (if are_named (pairs_of (pairs_in f)) then object (print_fields (pairs_of (pairs_in f))) else marked (codes "$fun") (array (print_pairs (pairs_of (pairs_in f))))) → d ≡ prints f
keyed_prints (function ps) d h n e =
    subst (λ (qs : Pairs). d ≡ (if are_named qs then object (print_fields qs) else marked (codes "$fun") (array (print_pairs qs)))) (pairs_of-entries ps) e ∙ either (are_numbered 1 ps) refl
  where
    either : (b : Bool) → are_numbered 1 ps ≡ b → (if are_named ps then object (print_fields ps) else marked (codes "$fun") (array (print_pairs ps)))
        ≡ (if b then array (print_values ps) else (if are_named ps then object (print_fields ps) else marked (codes "$fun") (array (print_pairs ps))))
    either true k = absurd (n (ap function (numbered_is 1 ps k)))
    either false k = refl
keyed_prints (model s) d h n e = absurd h
keyed_prints (truth s) d h n e = absurd h
keyed_prints (integer s) d h n e = absurd h
keyed_prints (string s) d h n e = absurd h
keyed_prints (set s) d h n e = absurd h

pub set_prints : (s : Val) (ds : Items) → IsSet s → ds ≡ print_members (vals_of (items_of s)) → marked (codes "$set") (array ds) ≡ prints s
set_prints (set vs) ds h e = ap (λ (is : Items). marked (codes "$set") (array is)) (e ∙ ap print_members (same vs))
  where
    same : (us : Vals) → vals_of (members us) ≡ us
    same no_vals = refl
    same (more_vals u us) = ap (more_vals u) (same us)
set_prints (model s) ds h e = absurd h
set_prints (truth s) ds h e = absurd h
set_prints (integer s) ds h e = absurd h
set_prints (string s) ds h e = absurd h
set_prints (function s) ds h e = absurd h

-- a function has as many pairs as are counted, and as many keys
pub pairs_counted : (f : Val) → IsFunction f → count_of f ≡ length (pairs_in f)
pairs_counted (truth b) h = absurd h
pairs_counted (integer n) h = absurd h
pairs_counted (string s) h = absurd h
pairs_counted (model s) h = absurd h
pairs_counted (set vs) h = absurd h
pairs_counted (function ps) h = refl

pub keys_counted : (ks : List Val) (f : Val) → ks ≡ keys_in f → length ks ≡ length (pairs_in f)
keys_counted ks f e = ap length e ∙ length-map (pairs_in f) (λ (p : Val × Val). p.0)
