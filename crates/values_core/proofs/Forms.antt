-- Sequences and records as lists of entries, and what is read of them.
use Rattle.std.proofs.Common.{◌≡◌, ℕ, Global, zero, suc, ◌+◌, ◌<◌, ◌≤◌, List, [], ◌∷◌, ◌++◌, length, take, map, get_or, ap, sym, subst, ◌∙◌, refl, arith, pos, Some, None, inl, inr}
use Rattle.std.proofs.lemmas.List.{take_more, length-take-le}
use Rattle.std.proofs.lemmas.Option.{slice_get_read, slice_get_past}
use Rattle.std.specs.List.{Contains, slice_get}
use Rattle.std.specs.declared.rc.Rc.{Rc}
use Rattle.values_core.specs.Ascending.{cons_cases, head_in, tail_in, none_in}
use Rattle.values_core.specs.Data.{Val, integer, string, function, Pairs, more_pairs, pairs_of, entries}
use Rattle.values_core.specs.FunctionLaws.{entries-pairs_of}
use Rattle.values_core.specs.Functions.{IsSequence, numbered_from, sequence_of}
use Rattle.values_core.specs.declared.value.Entry.{Entry}
use Rattle.values_core.specs.declared.value.Field.{Field}
use Rattle.values_core.specs.declared.value.SequenceBody.{SequenceBody}
use Rattle.values_core.specs.declared.value.Node.{Node}
use Rattle.values_core.specs.declared.value.Node.TheVariants.{Model, Bool, Int, String, Set, Sequence, Record, Function}
use Rattle.values_core.specs.View.{AreNamed, HasOneForm, IsName, entries_view, fields_view, node_view}
use Rattle.values_core.proofs.SequenceLemmas.{length-numbered, numbered-push}

-- a field as the pair that it stands for
abbrev pub as_entry : Field → Entry
as_entry f = record { key = string f.name; value = f.value }

pub fields_as : (fs : List Field) → fields_view fs ≡ entries_view (map as_entry fs)
fields_as [] = refl
fields_as (f ∷ fs) = ap (more_pairs (string f.name) f.value) (fields_as fs)

pub as_at : (fs : List Field) (i : ℕ) (f : Field) → i < length fs → f ≡ get_or fs i f → as_entry f ≡ get_or (map as_entry fs) i (as_entry f)
as_at [] i f h e = absurd (omega arith)
as_at (g ∷ gs) zero f h e = ap as_entry e
as_at (g ∷ gs) (suc i) f h e = as_at gs i f (omega arith) e

pub length-as : (fs : List Field) → length (map as_entry fs) ≡ length fs
length-as [] = refl
length-as (f ∷ fs) = ap suc (length-as fs)

-- the pairs of a sequence whose first key is n
abbrev pub placed : ℕ → List Val → List Entry
placed n [] = []
placed n (v ∷ vs) = record { key = integer (pos n); value = v } ∷ placed (suc n) vs

pub numbered_as : (n : ℕ) (vs : List Val) → pairs_of (numbered_from n vs) ≡ entries_view (placed n vs)
numbered_as n [] = refl
numbered_as n (v ∷ vs) = ap (more_pairs (integer (pos n)) v) (numbered_as (suc n) vs)

pub length-placed : (n : ℕ) (vs : List Val) → length (placed n vs) ≡ length vs
length-placed n [] = refl
length-placed n (v ∷ vs) = ap suc (length-placed (suc n) vs)

pub placed_at : (n : ℕ) (vs : List Val) (i m : ℕ) (v : Val) (e : Entry) → m ≡ n + i → i < length vs → v ≡ get_or vs i v → e.key ≡ integer (pos m) → e.value ≡ v
    → e ≡ get_or (placed n vs) i e
placed_at n [] i m v e is h g k w = absurd (omega arith)
placed_at n (u ∷ us) zero m v e is h g k w =
    let key : e.key ≡ integer (pos n) = k ∙ ap (λ j. integer (pos j)) (let z : m ≡ n = omega arith in z) in
    let value : e.value ≡ u = w ∙ g in λ i. record { key = key i; value = value i }
placed_at n (u ∷ us) (suc i) m v e is h g k w = placed_at (suc n) us i m v e (omega arith) (omega arith) g k w

-- the values and the keys of a sequence
pub values-numbered : (n : ℕ) (vs : List Val) → map (λ p. p.1) (entries (pairs_of (numbered_from n vs))) ≡ vs
values-numbered n [] = refl
values-numbered n (v ∷ vs) = ap (λ us. v ∷ us) (values-numbered (suc n) vs)

pub place_read : (n : ℕ) (vs : List Val) (i m : ℕ) → m ≡ n + i → i < length vs → slice_get (map (λ p. p.0) (entries (pairs_of (numbered_from n vs)))) i ≡ Some (integer (pos m))
place_read n [] i m e h = absurd (omega arith)
place_read n (v ∷ vs) zero m e h = ap (λ j. Some (integer (pos j))) (let z : n ≡ m = omega arith in z)
place_read n (v ∷ vs) (suc i) m e h = place_read (suc n) vs i m (omega arith) (omega arith)

pub place_past : (n : ℕ) (vs : List Val) (i : ℕ) → length vs ≤ i → slice_get (map (λ p. p.0) (entries (pairs_of (numbered_from n vs)))) i ≡ None
place_past n [] i h = refl
place_past n (v ∷ vs) zero h = absurd (omega arith)
place_past n (v ∷ vs) (suc i) h = place_past (suc n) vs i (omega arith)

pub item_read : (vs : List Val) (i : ℕ) (v : Val) → i < length vs → v ≡ get_or vs i v → slice_get (map (λ p. p.1) (entries (pairs_of (numbered_from 1 vs)))) i ≡ Some v
item_read vs i v h e = ap (λ (us : List Val). slice_get us i) (values-numbered 1 vs) ∙ slice_get_read vs (length vs) i v refl h e

pub item_past : (vs : List Val) (i : ℕ) → length vs ≤ i → slice_get (map (λ p. p.1) (entries (pairs_of (numbered_from 1 vs)))) i ≡ None
item_past vs i h = ap (λ (us : List Val). slice_get us i) (values-numbered 1 vs) ∙ slice_get_past vs i h

-- how many pairs
pub length-places : (n : ℕ) (vs : List Val) → length (entries (pairs_of (numbered_from n vs))) ≡ length vs
length-places n vs = ap (length {A = Val × Val}) (entries-pairs_of (numbered_from n vs)) ∙ length-numbered n vs

pub length-fields : (fs : List Field) → length (entries (fields_view fs)) ≡ length fs
length-fields [] = refl
length-fields (f ∷ fs) = ap suc (length-fields fs)

-- one pair more
pub numbered_more : (vs : List Val) (i m : ℕ) (v : Val) → m ≡ i + 1 → i < length vs → v ≡ get_or vs i v
    → entries (pairs_of (numbered_from 1 (take (i + 1) vs))) ≡ entries (pairs_of (numbered_from 1 (take i vs))) ++ (integer (pos m), v) ∷ []
numbered_more vs i m v is h e = rw (take_more vs i v, ← e) (
    entries-pairs_of (numbered_from 1 (take i vs ++ v ∷ []))
    ∙ numbered-push 1 (take i vs) v
    ∙ ap (λ j. numbered_from 1 (take i vs) ++ (integer (pos j), v) ∷ []) here
    ∙ ap (λ ps. ps ++ (integer (pos m), v) ∷ []) (sym (entries-pairs_of (numbered_from 1 (take i vs)))))
  where
    here : 1 + length (take i vs) ≡ m
    here = omega (arith, length-take-le i vs (omega arith))

fields_push : (fs : List Field) (f : Field) → entries (fields_view (fs ++ f ∷ [])) ≡ entries (fields_view fs) ++ (string f.name, f.value) ∷ []
fields_push [] f = refl
fields_push (g ∷ gs) f = ap (λ ps. (string g.name, g.value) ∷ ps) (fields_push gs f)

pub fields_more : (fs : List Field) (i : ℕ) (f : Field) → i < length fs → f ≡ get_or fs i f → entries (fields_view (take (i + 1) fs)) ≡ entries (fields_view (take i fs)) ++ (string f.name, f.value) ∷ []
fields_more fs i f h e = rw (take_more fs i f, ← e) (fields_push (take i fs) f)

-- the fields of a record
pub field_read : (fs : List Field) (i : ℕ) (f : Field) → i < length fs → f ≡ get_or fs i f → slice_get (map (λ p. p.1) (entries (fields_view fs))) i ≡ Some f.value
field_read [] i f h is = absurd (omega arith)
field_read (g ∷ gs) zero f h is = ap (λ (w : Field). Some w.value) (sym is)
field_read (g ∷ gs) (suc i) f h is = field_read gs i f (omega arith) is

pub field_past : (fs : List Field) (i : ℕ) → length fs ≤ i → slice_get (map (λ p. p.1) (entries (fields_view fs))) i ≡ None
field_past [] i h = refl
field_past (g ∷ gs) zero h = absurd (omega arith)
field_past (g ∷ gs) (suc i) h = field_past gs i (omega arith)

pub name_read : (fs : List Field) (i : ℕ) (f : Field) → i < length fs → f ≡ get_or fs i f → slice_get (map (λ p. p.0) (entries (fields_view fs))) i ≡ Some (string f.name)
name_read [] i f h is = absurd (omega arith)
name_read (g ∷ gs) zero f h is = ap (λ (w : Field). Some (string w.name)) (sym is)
name_read (g ∷ gs) (suc i) f h is = name_read gs i f (omega arith) is

pub name_past : (fs : List Field) (i : ℕ) → length fs ≤ i → slice_get (map (λ p. p.0) (entries (fields_view fs))) i ≡ None
name_past [] i h = refl
name_past (g ∷ gs) zero h = absurd (omega arith)
name_past (g ∷ gs) (suc i) h = name_past gs i (omega arith)

pub field_in : (fs : List Field) (i : ℕ) (f : Field) → i < length fs → f ≡ get_or fs i f → Contains (entries (fields_view fs)) (string f.name, f.value)
field_in [] i f h is = absurd (omega arith)
field_in (g ∷ gs) zero f h is = subst (λ (w : Field). Contains ((string g.name, g.value) ∷ entries (fields_view gs)) (string w.name, w.value)) (sym is) (head_in (string g.name, g.value) (entries (fields_view gs)))
field_in (g ∷ gs) (suc i) f h is = tail_in (string g.name, g.value) (entries (fields_view gs)) (string f.name, f.value) (field_in gs i f (omega arith) is)

-- what is no string is no name of a field
other_key : (n : Node) (s : List ℕ) → ((t : List ℕ) → n ≡ String t → ⊥) → string s ≡ node_view n → ⊥
other_key (String t) s h e = h t refl
other_key (Model t) s h e = cc
other_key (Bool b) s h e = cc
other_key (Int z) s h e = cc
other_key (Set v) s h e = cc
other_key (Sequence v) s h e = cc
other_key (Record v) s h e = cc
other_key (Function v) s h e = cc

pub no_name : (fs : List Field) (n : Node) → ((t : List ℕ) → n ≡ String t → ⊥) → Contains (map (λ p. p.0) (entries (fields_view fs))) (node_view n) → ⊥
no_name [] n h g = none_in (node_view n) g
no_name (f ∷ fs) n h g = elim (cons_cases (string f.name) (map (λ p. p.0) (entries (fields_view fs))) (node_view n) g) [
  | inl e ↦ other_key n f.name h e
  | inr k ↦ no_name fs n h k
]

-- the pairs of a sequence, and its keys
pub place_in : (n : ℕ) (vs : List Val) (i m : ℕ) (v : Val) → m ≡ n + i → i < length vs → v ≡ get_or vs i v → Contains (entries (pairs_of (numbered_from n vs))) (integer (pos m), v)
place_in n [] i m v is h e = absurd (omega arith)
place_in n (u ∷ us) zero m v is h e =
    let key : n ≡ m = omega arith in
    subst (λ (w : Val). Contains ((integer (pos n), u) ∷ entries (pairs_of (numbered_from (suc n) us))) (integer (pos m), w)) (sym e)
    (subst (λ (j : ℕ). Contains ((integer (pos n), u) ∷ entries (pairs_of (numbered_from (suc n) us))) (integer (pos j), u)) key (head_in (integer (pos n), u) (entries (pairs_of (numbered_from (suc n) us)))))
place_in n (u ∷ us) (suc i) m v is h e =
    tail_in (integer (pos n), u) (entries (pairs_of (numbered_from (suc n) us))) (integer (pos m), v) (place_in (suc n) us i m v (omega arith) (omega arith) e)

pub no_place : (n : ℕ) (vs : List Val) (key : Val) → ((i m : ℕ) → m ≡ n + i → i < length vs → key ≡ integer (pos m) → ⊥) → Contains (map (λ p. p.0) (entries (pairs_of (numbered_from n vs)))) key → ⊥
no_place n [] key h g = none_in key g
no_place n (v ∷ vs) key h g = elim (cons_cases (integer (pos n)) (map (λ p. p.0) (entries (pairs_of (numbered_from (suc n) vs)))) key g) [
  | inl e ↦ h 0 n (omega arith) (omega arith) (sym e)
  | inr k ↦ no_place (suc n) vs key (λ i m is l e. h (suc i) m (omega arith) (omega arith) e) k
]

-- which forms are sequences
pub sequence_itself : (vs : List Val) → IsSequence (sequence_of vs)
sequence_itself vs = ap sequence_of (sym (values-numbered 1 vs))

named_is_none : (fs : List Field) → 0 < length fs → IsSequence (function (fields_view fs)) → ⊥
named_is_none [] h e = omega arith
named_is_none (f ∷ fs) h e = let k : string f.name ≡ integer (pos 1) = ap first e in cc
  where
    first : Val → Val
    first (function (more_pairs k v ps)) = k
    first w = w

pub not_sequence : (n : Node) → HasOneForm n → ((b : Rc SequenceBody Global) → n ≡ Sequence b → ⊥) → IsSequence (node_view n) → ⊥
not_sequence (Model t) k h e = cc
not_sequence (Bool b) k h e = cc
not_sequence (Int z) k h e = cc
not_sequence (String t) k h e = cc
not_sequence (Set v) k h e = cc
not_sequence (Sequence v) k h e = h v refl
not_sequence (Record v) k h e = named_is_none v.value.fields.items k e
not_sequence (Function v) k h e = k.0 e

-- what is no sequence has a field
pub some_field : (fs : List Field) (ps : Pairs) → fields_view fs ≡ ps → ¬ IsSequence (function ps) → 0 < length fs
some_field [] ps e n = absurd (n (subst (λ (qs : Pairs). IsSequence (function qs)) e refl))
some_field (f ∷ fs) ps e n = omega arith

-- pairs whose keys are strings
pub named_at : (ps : List (Val × Val)) (i : ℕ) (p : Val × Val) → i < length ps → p ≡ get_or ps i p → AreNamed (pairs_of ps) → IsName p.0
named_at [] i p h e a = absurd (omega arith)
named_at (q ∷ qs) zero p h e a = subst (λ (w : Val × Val). IsName w.0) (sym e) a.0
named_at (q ∷ qs) (suc i) p h e a = named_at qs i p (omega arith) e a.1

named_push : (ps : List (Val × Val)) (p : Val × Val) → AreNamed (pairs_of ps) → IsName p.0 → AreNamed (pairs_of (ps ++ p ∷ []))
named_push [] p a n = (n, tt)
named_push (q ∷ qs) p a n = (a.0, named_push qs p a.1 n)

pub named_more : (ps : List (Val × Val)) (i : ℕ) (p : Val × Val) → i < length ps → p ≡ get_or ps i p → AreNamed (pairs_of (take i ps)) → IsName p.0 → AreNamed (pairs_of (take (i + 1) ps))
named_more ps i p h e a n = rw (take_more ps i p, ← e) (named_push (take i ps) p a n)

pub no_string : (n : Node) → ((t : List ℕ) → n ≡ String t → ⊥) → IsName (node_view n) → ⊥
no_string (String t) h k = h t refl
no_string (Model t) h k = k
no_string (Bool b) h k = k
no_string (Int z) h k = k
no_string (Set v) h k = k
no_string (Sequence v) h k = k
no_string (Record v) h k = k
no_string (Function v) h k = k

pub named_first : (xs ys : List (Val × Val)) (k v : Val) → xs ≡ (k, v) ∷ ys → AreNamed (pairs_of xs) → IsName k × AreNamed (pairs_of ys)
named_first xs ys k v e a = subst (λ (zs : List (Val × Val)). AreNamed (pairs_of zs)) e a
