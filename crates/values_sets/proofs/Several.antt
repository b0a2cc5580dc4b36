-- Sets of tuples and of records whose parts are listed.
use Rattle.std.proofs.Common.{◌≡◌, ◌↔◌, inl, inr, ℕ, suc, ◌<◌, pos, List, [], ◌∷◌, length, map, Result, Err, None, Some, ap, sym, ◌∙◌, subst, refl, arith}
use Rattle.std.specs.List.{Contains}
use Rattle.values_core.specs.Data.{Val, model, truth, integer, string, set, function, text_of}
use Rattle.values_core.specs.Ascending.{cons_cases, head_in, tail_in, none_in}
use Rattle.values_core.specs.IsValue.{IsValue}
use Rattle.values_core.specs.Sets.{IsSet}
use Rattle.values_core.specs.Functions.{IsFunction, InDomain, HasPair, numbered_from, sequence_of, keys_in, pairs_in}
use Rattle.values_core.specs.FunctionLaws.{entries-pairs_of, keys_ordered, in_keys}
use Rattle.values_core.specs.Products.{AreOneOfEach, InProduct, HasFields, IsName, InRecordSet}
use Rattle.values_core.specs.SetOperations.{GivesSet, AreDifferent}
use Rattle.values_core.specs.declared.fault.OpFault.{OpFault}
use Rattle.values_core.proofs.SequenceLemmas.{length-numbered}
use Rattle.values_operations.specs.NoSet.{no_set_from}
use Rattle.values_operations.proofs.Listing.{gives_as, no_longer}
use Rattle.values_sets.specs.DescribedSets.{Records, Product, Fields, NoFields, MoreFields, Parts, NoParts, MoreParts}
use Rattle.values_sets.specs.Membership.{FieldsBelong, AreOfParts, IsMember, names_of}
use Rattle.values_sets.specs.Soundness.{IsString, FieldsAreSound}
use Rattle.values_sets.specs.Listings.{Collects, Listing, BeforeFields, BeforeParts}
use Rattle.values_sets.specs.ListedParts.{AreListings, IsRefused, MayBeRefused, sets_of, text_in, texts_of}
use Rattle.values_sets.proofs.Collecting.{listed_is, no_memory, pair_value}

-- all parts are listed
behind_parts : (ps : Parts) (ss : List Val) (Q : Result Val OpFault → Type 0) (r : Result Val OpFault) → AreListings ps ss → Q r → BeforeParts ps Q r
behind_parts NoParts [] Q r l q = q
behind_parts NoParts (s ∷ ss) Q r l q = absurd l
behind_parts (MoreParts d ps) [] Q r l q = absurd l
behind_parts (MoreParts d ps) (s ∷ ss) Q r l q = inr (s, l.0, behind_parts ps ss Q r l.1 q)

behind_fields : (fs : Fields) (ss : List Val) (Q : Result Val OpFault → Type 0) (r : Result Val OpFault) → AreListings (sets_of fs) ss → Q r → BeforeFields fs Q r
behind_fields NoFields [] Q r l q = q
behind_fields NoFields (s ∷ ss) Q r l q = absurd l
behind_fields (MoreFields n d fs) [] Q r l q = absurd l
behind_fields (MoreFields n d fs) (s ∷ ss) Q r l q = inr (s, l.0, behind_fields fs ss Q r l.1 q)

-- a part is refused
at_part : (ps : Parts) (Q : Result Val OpFault → Type 0) (e : OpFault) → IsRefused ps e → BeforeParts ps Q (Err e)
at_part NoParts Q e h = absurd h
at_part (MoreParts d ps) Q e (inl h) = inl (e, h, refl)
at_part (MoreParts d ps) Q e (inr h) = inr (h.0, h.1, at_part ps Q e h.2)

at_field : (fs : Fields) (Q : Result Val OpFault → Type 0) (e : OpFault) → IsRefused (sets_of fs) e → BeforeFields fs Q (Err e)
at_field NoFields Q e h = absurd h
at_field (MoreFields n d fs) Q e (inl h) = inl (e, h, refl)
at_field (MoreFields n d fs) Q e (inr h) = inr (h.0, h.1, at_field fs Q e h.2)

pub product_refused : (ps : Parts) (e : OpFault) → MayBeRefused ps e → Listing (Product ps) (Err e)
product_refused ps e (inl h) = subst (λ (f : OpFault). Listing (Product ps) (Err f)) (sym h) (no_memory (Product ps))
product_refused ps e (inr h) = at_part ps (Collects (Product ps)) e h

pub records_refused : (fs : Fields) (e : OpFault) → MayBeRefused (sets_of fs) e → Listing (Records fs) (Err e)
records_refused fs e (inl h) = subst (λ (f : OpFault). Listing (Records fs) (Err f)) (sym h) (no_memory (Records fs))
records_refused fs e (inr h) = at_field fs (Collects (Records fs)) e h

-- what is listed is a set
pub listings_are_sets : (ps : Parts) (ss : List Val) → AreListings ps ss → (s : Val) → Contains ss s → IsSet s
listings_are_sets NoParts [] l s h = absurd (none_in s h)
listings_are_sets NoParts (t ∷ ss) l s h = absurd l
listings_are_sets (MoreParts d ps) [] l s h = absurd l
listings_are_sets (MoreParts d ps) (t ∷ ss) l s h = elim (cons_cases t ss s h) [
  | inl e ↦ subst (λ (v : Val). IsSet v) e (listed_is d t l.0).is_set
  | inr g ↦ listings_are_sets ps ss l.1 s g
]

pub all_sets : (n : ℕ) (ss : List Val) → ((s : Val) → Contains ss s → IsSet s) → no_set_from n ss ≡ None
all_sets n [] f = refl
all_sets n (s ∷ ss) f = passed s (f s (head_in s ss)) ∙ all_sets (suc n) ss (λ t h. f t (tail_in s ss t h))
  where
    passed : (q : Val) → IsSet q → no_set_from n (q ∷ ss) ≡ no_set_from (suc n) ss
    passed (set vs) k = refl
    passed (model s) k = absurd k
    passed (truth s) k = absurd k
    passed (integer s) k = absurd k
    passed (string s) k = absurd k
    passed (function s) k = absurd k

-- the values of a sequence are values
numbered_has : (n : ℕ) (vs : List Val) (w : Val) → Contains vs w → (k : Val) × Contains (numbered_from n vs) (k, w)
numbered_has n [] w h = absurd (none_in w h)
numbered_has n (v ∷ vs) w h = elim (cons_cases v vs w h) [
  | inl e ↦ (integer (pos n), subst (λ (x : Val). Contains ((integer (pos n), v) ∷ numbered_from (suc n) vs) (integer (pos n), x)) e (head_in (integer (pos n), v) (numbered_from (suc n) vs)))
  | inr g ↦ let k = numbered_has (suc n) vs w g in (k.0, tail_in (integer (pos n), v) (numbered_from (suc n) vs) (k.0, w) k.1)
]

item_value : (f : Val) (vs : List Val) (w : Val) → IsValue f → f ≡ sequence_of vs → Contains vs w → IsValue w
item_value f vs w p e h =
    let k = numbered_has 1 vs w h in
    pair_value f k.0 w p (subst (λ (g : Val). HasPair g k.0 w) (sym e) (subst (λ (ps : List (Val × Val)). Contains ps (k.0, w)) (sym (entries-pairs_of (numbered_from 1 vs))) k.1))

one_of_each : (ps : Parts) (ss vs : List Val) → AreListings ps ss → AreOneOfEach vs ss → AreOfParts ps vs
one_of_each NoParts [] [] l o = tt
one_of_each NoParts [] (v ∷ vs) l o = absurd o
one_of_each NoParts (s ∷ ss) vs l o = absurd l
one_of_each (MoreParts d ps) [] vs l o = absurd l
one_of_each (MoreParts d ps) (s ∷ ss) [] l o = absurd o
one_of_each (MoreParts d ps) (s ∷ ss) (v ∷ vs) l o = ((((listed_is d s l.0).same v).0 o.0).1, one_of_each ps ss vs l.1 o.1)

each_of_one : (ps : Parts) (ss vs : List Val) → AreListings ps ss → ((v : Val) → Contains vs v → IsValue v) → AreOfParts ps vs → AreOneOfEach vs ss
each_of_one NoParts [] [] l f o = tt
each_of_one NoParts [] (v ∷ vs) l f o = absurd o
each_of_one NoParts (s ∷ ss) vs l f o = absurd l
each_of_one (MoreParts d ps) [] vs l f o = absurd l
each_of_one (MoreParts d ps) (s ∷ ss) [] l f o = absurd o
each_of_one (MoreParts d ps) (s ∷ ss) (v ∷ vs) l f o = (((listed_is d s l.0).same v).1 (f v (head_in v vs), o.0), each_of_one ps ss vs l.1 (λ w h. f w (tail_in v vs w h)) o.1)

pub product_listed : (ps : Parts) (ss : List Val) (r : Result Val OpFault) → AreListings ps ss → GivesSet (InProduct ss) r → Listing (Product ps) r
product_listed ps ss r l q =
    behind_parts ps ss (Collects (Product ps)) r l (gives_as (InProduct ss) (IsMember (Product ps)) r (λ f. (
      λ h. (h.0, (h.1.0, h.1.1, one_of_each ps ss h.1.0 l h.1.2)),
      λ h. (h.0, (h.1.0, h.1.1, each_of_one ps ss h.1.0 l (λ w g. item_value f h.1.0 w h.0 h.1.1 g) h.1.2)),
    )) q)

-- no value is a tuple of more values than a function may have
length-one_of_each : (vs ss : List Val) → AreOneOfEach vs ss → length vs ≡ length ss
length-one_of_each [] [] o = refl
length-one_of_each [] (s ∷ ss) o = absurd o
length-one_of_each (v ∷ vs) [] o = absurd o
length-one_of_each (v ∷ vs) (s ∷ ss) o = ap suc (length-one_of_each vs ss o.1)

length-keys : (ps : List (Val × Val)) → length (map (λ p. p.0) ps) ≡ length ps
length-keys [] = refl
length-keys (p ∷ ps) = ap suc (length-keys ps)

keys_of_sequence : (f : Val) (vs : List Val) → f ≡ sequence_of vs → length (keys_in f) ≡ length vs
keys_of_sequence f vs e =
    ap (λ (g : Val). length (keys_in g)) e ∙ length-keys (pairs_in (sequence_of vs)) ∙ ap (λ (ps : List (Val × Val)). length ps) (entries-pairs_of (numbered_from 1 vs)) ∙ length-numbered 1 vs

pub no_long_tuples : (ss : List Val) → 100000 < length ss → (f : Val) → Contains [] f ↔ InProduct ss f
no_long_tuples ss l f = (
  λ h. absurd (none_in f h),
  λ h.
      let is : IsFunction f = subst (λ (g : Val). IsFunction g) (sym h.1.1) tt in
      let few = (keys_ordered f h.0 is).few in
      absurd (omega (arith, few, l, keys_of_sequence f h.1.0 h.1.1, length-one_of_each h.1.0 ss h.1.2)),
)

-- names as texts
pub string_names : (fs : Fields) → FieldsAreSound fs → map string (texts_of fs) ≡ names_of fs
string_names NoFields s = refl
string_names (MoreFields n d fs) s = λ i. name n s.0 i ∷ string_names fs s.2 i
  where
    name : (m : Val) → IsString m → string (text_in m) ≡ m
    name (string t) h = refl
    name (model t) h = absurd h
    name (truth t) h = absurd h
    name (integer t) h = absurd h
    name (set t) h = absurd h
    name (function t) h = absurd h

mapped_in : (ns : List (List ℕ)) (n : List ℕ) → Contains ns n → Contains (map string ns) (string n)
mapped_in [] n h = absurd (none_in n h)
mapped_in (m ∷ ns) n h = elim (cons_cases m ns n h) [
  | inl e ↦ subst (λ (k : List ℕ). Contains (string m ∷ map string ns) (string k)) e (head_in (string m) (map string ns))
  | inr g ↦ tail_in (string m) (map string ns) (string n) (mapped_in ns n g)
]

names_different : (ns : List (List ℕ)) → AreDifferent (map string ns) → AreDifferent ns
names_different [] d = tt
names_different (n ∷ ns) d = (λ h. d.0 (mapped_in ns n h), names_different ns d.1)

pub texts_different : (fs : Fields) → FieldsAreSound fs → AreDifferent (names_of fs) → AreDifferent (texts_of fs)
texts_different fs s d = names_different (texts_of fs) (subst (λ (ks : List Val). AreDifferent ks) (sym (string_names fs s)) d)

pub length-texts : (fs : Fields) → length (texts_of fs) ≡ length (names_of fs)
length-texts NoFields = refl
length-texts (MoreFields n d fs) = ap suc (length-texts fs)

pub length-listings : (fs : Fields) (ss : List Val) → AreListings (sets_of fs) ss → length ss ≡ length (names_of fs)
length-listings NoFields [] l = refl
length-listings NoFields (s ∷ ss) l = absurd l
length-listings (MoreFields n d fs) [] l = absurd l
length-listings (MoreFields n d fs) (s ∷ ss) l = ap suc (length-listings fs ss l.1)

-- fields with members of what is listed are fields that belong, and the other way round
fields_there : (ns : List (List ℕ)) (fs : Fields) (ss : List Val) (f : Val) → map string ns ≡ names_of fs → AreListings (sets_of fs) ss → HasFields ns ss f → FieldsBelong fs f
fields_there ns NoFields ss f e l h = tt
fields_there [] (MoreFields n d fs) ss f e l h = cc
fields_there (m ∷ ns) (MoreFields n d fs) [] f e l h = absurd l
fields_there (m ∷ ns) (MoreFields n d fs) (s ∷ ss) f e l h =
    let first : string m ≡ n = cc in
    let rest : map string ns ≡ names_of fs = cc in
    let w = ((listed_is d s l.0).same h.0.0).0 h.0.2 in
    ((h.0.0, subst (λ (k : Val). HasPair f k h.0.0) first h.0.1, w.1), fields_there ns fs ss f rest l.1 h.1)

fields_back : (ns : List (List ℕ)) (fs : Fields) (ss : List Val) (f : Val) → IsValue f → map string ns ≡ names_of fs → AreListings (sets_of fs) ss → FieldsBelong fs f → HasFields ns ss f
fields_back [] fs ss f p e l b = tt
fields_back (m ∷ ns) NoFields ss f p e l b = cc
fields_back (m ∷ ns) (MoreFields n d fs) [] f p e l b = absurd l
fields_back (m ∷ ns) (MoreFields n d fs) (s ∷ ss) f p e l b =
    let first : n ≡ string m = cc in
    let rest : map string ns ≡ names_of fs = cc in
    let w = ((listed_is d s l.0).same b.0.0).1 (pair_value f n b.0.0 p b.0.1, b.0.2) in
    ((b.0.0, subst (λ (k : Val). HasPair f k b.0.0) first b.0.1, w), fields_back ns fs ss f p rest l.1 b.1)

name_in : (ns : List (List ℕ)) (key : Val) → IsName ns key → Contains (map string ns) key
name_in [] key h = absurd h
name_in (n ∷ ns) key (inl e) = subst (λ (k : Val). Contains (string n ∷ map string ns) k) (sym e) (head_in (string n) (map string ns))
name_in (n ∷ ns) key (inr h) = tail_in (string n) (map string ns) key (name_in ns key h)

in_name : (ns : List (List ℕ)) (key : Val) → Contains (map string ns) key → IsName ns key
in_name [] key h = absurd (none_in key h)
in_name (n ∷ ns) key h = elim (cons_cases (string n) (map string ns) key h) [
  | inl e ↦ inl (sym e)
  | inr g ↦ inr (in_name ns key g)
]

pub records_listed : (fs : Fields) (ss : List Val) (r : Result Val OpFault) → FieldsAreSound fs → AreListings (sets_of fs) ss → GivesSet (InRecordSet (texts_of fs) ss) r → Listing (Records fs) r
records_listed fs ss r sound l q =
    let e = string_names fs sound in
    behind_fields fs ss (Collects (Records fs)) r l (gives_as (InRecordSet (texts_of fs) ss) (IsMember (Records fs)) r (λ f. (
      λ h. (h.0, (h.1, fields_there (texts_of fs) fs ss f e l h.2, λ key g. subst (λ (ks : List Val). Contains ks key) e (name_in (texts_of fs) key (h.3 key g)))),
      λ h. (h.0, h.1.0, fields_back (texts_of fs) fs ss f h.0 e l h.1.1, λ key g. in_name (texts_of fs) key (subst (λ (ks : List Val). Contains ks key) (sym e) (h.1.2 key g))),
    )) q)

-- no value is a record of more fields than a function may have
named : (ns : List (List ℕ)) (ss : List Val) (f key : Val) → HasFields ns ss f → Contains (map string ns) key → InDomain key f
named [] ss f key h g = absurd (none_in key g)
named (n ∷ ns) [] f key h g = absurd h
named (n ∷ ns) (s ∷ ss) f key h g = elim (cons_cases (string n) (map string ns) key g) [
  | inl e ↦ subst (λ (k : Val). InDomain k f) e (in_keys (pairs_in f) (string n, h.0.0) h.0.1)
  | inr i ↦ named ns ss f key h.1 i
]

pub no_long_records : (fs : Fields) (ss : List Val) → FieldsAreSound fs → AreDifferent (names_of fs) → length ss ≡ length (names_of fs) → 100000 < length ss → (f : Val) → Contains [] f ↔ InRecordSet (texts_of fs) ss f
no_long_records fs ss sound d m l f = (
  λ h. absurd (none_in f h),
  λ h.
      let few = (keys_ordered f h.0 h.1).few in
      let long = no_longer (names_of fs) (keys_in f) d (λ k g. named (texts_of fs) ss f k h.2 (subst (λ (ks : List Val). Contains ks k) (sym (string_names fs sound)) g)) in
      absurd (omega (arith, few, l, m, long)),
)

-- the text of a string
pub text_is : (v : Val) (t : List ℕ) → IsString v → Some t ≡ text_of v → t ≡ text_in v
text_is (string s) t h e = cc
text_is (model s) t h e = absurd h
text_is (truth s) t h e = absurd h
text_is (integer s) t h e = absurd h
text_is (set s) t h e = absurd h
text_is (function s) t h e = absurd h

pub has_text : (v : Val) → IsString v → None ≡ text_of v → ⊥
has_text (string s) h e = cc
has_text (model s) h e = h
has_text (truth s) h e = h
has_text (integer s) h e = h
has_text (set s) h e = h
has_text (function s) h e = h
