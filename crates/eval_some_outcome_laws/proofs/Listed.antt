-- That a described set has a listing: a sound set of values is listed, or refused for what it is.
use Rattle.std.proofs.Common.{◌≡◌, ◌↔◌, ◌⊎◌, inl, inr, refl, sym, ◌∙◌, subst, arith, ℕ, ℤ, pos, negsuc, ◌^◌, ◌<◌, ◌≤◌, List, [], ◌∷◌, ◌++◌, length, map, replicate}
use Rattle.std.specs.Prelude.{◌+ℤ◌, ◌-ℤ◌, ◌≤ℤ◌, ◌<ℤ◌, Bool, true, false, ◌&&◌, MatchBool, FitsSigned, Result, Ok, Err, Contains}
use Rattle.std.specs.Int.{w64}
use Rattle.std.specs.List.{zip}
use Rattle.std.proofs.lemmas.Int.{ints}
use Rattle.std.proofs.lemmas.List.Elements.{Contains-append_left, Contains-append_right, Contains-append_cases}
use Rattle.values_core.specs.Data.{Val, string, depth}
use Rattle.values_core.specs.Ascending.{cons_cases, head_in, tail_in, none_in}
use Rattle.values_core.specs.Functions.{HasPair}
use Rattle.values_core.proofs.MakingLaws.{pairs_are_values}
use Rattle.std.specs.Prelude.{IsUtf8}
use Rattle.std.specs.Str.{is_utf8}
use Rattle.std.proofs.lemmas.Str.{IsUtf8-from_is_utf8, is_utf8-from_IsUtf8}
use Rattle.values_core.specs.IsValue.{IsValue, max_members}
use Rattle.values_core.specs.Sets.{IsSet, Member, items_of, count_of}
use Rattle.values_core.specs.SetOperations.{AreDifferent, GivesSet, InInterval, InPowerset, InUnion}
use Rattle.values_core.specs.Products.{HasFields, InFunctionSet, InProduct, InRecordSet}
use Rattle.values_core.specs.declared.fault.EvalKind.{EvalKind}
use Rattle.values_core.specs.declared.fault.EvalKind.TheVariants.{NotFinite}
use Rattle.values_core.specs.declared.fault.OpFault.{OpFault}
use Rattle.values_core.specs.declared.fault.OpFault.TheVariants.{Refused}
use Rattle.values_operations.specs.Choices.{AreKeysAndParts, IsChoice, IsChoiceOf, choice}
use Rattle.values_operations.specs.Counts.{ways}
use Rattle.values_operations.specs.Listed.{ints_from}
use Rattle.values_operations.specs.Subsets.{IsSubsetOf}
use Rattle.values_operations.proofs.Adapted.{domain_and_range, in_function_set, in_product, in_record_set, integer_keys, string_keys}
use Rattle.values_operations.proofs.Choosing.{choice_each}
use Rattle.values_operations.proofs.Intervals.{interval_is, nothing_between}
use Rattle.values_operations.proofs.Listing.{on_set, on_sets}
use Rattle.values_operations.proofs.Made.{function_exists, member_inner}
use Rattle.values_operations.proofs.Subsets.{all_subsets, set_members, subset_exists}
use Rattle.values_operations.proofs.Ways.{all_ways, chosen_pairs}
use Rattle.values_sets.specs.DescribedSets.{Described, Nat, Int, Strings, Booleans, SeqOf, PowerOf, Interval, Functions, Records, Product, Union, Inter, Minus, Listed, Fields, NoFields, MoreFields, Parts, NoParts, MoreParts}
use Rattle.values_sets.specs.ListedParts.{AreListings, IsChosen, IsRefused, sets_of, texts_of}
use Rattle.values_sets.specs.Listings.{Before, Collects, Listing, Lists, fields_are_finite, is_finite, parts_are_finite}
use Rattle.values_sets.specs.Membership.{Belongs, names_of}
use Rattle.values_sets.specs.Soundness.{FieldsAreSound, IsSound, PartsAreSound}
use Rattle.values_sets.proofs.Collecting.{functions_listed, inter_listed, interval_listed, listed_is, minus_listed, refused_first, same_listed, subsets_listed, union_listed, union_refused}
use Rattle.values_sets.proofs.Several.{all_sets, length-listings, length-texts, listings_are_sets, no_long_records, no_long_tuples, product_listed, product_refused, records_listed, records_refused, texts_different}
use Rattle.values_set_bounds.proofs.Decided.{Decided, belongs_or, some_there}
use Rattle.values_set_bounds.proofs.Existing.{numbered_list}
use Rattle.values_set_bounds.proofs.Listed.{apart, booleans_within}
use Rattle.eval_some_outcome_laws.specs.Laws.{HasSomeListing}
use Rattle.eval_some_outcome_laws.specs.MadeOfValues.{AreFieldsOfValues, ArePartsOfValues, IsMadeOfValues}
use Rattle.eval_some_outcome_laws.proofs.Answered.{Answered, all_or_one, answered_as, at_most_or_above, not_or, set_answered_as}

-- sets that are made of others

pub subsets_answered : (a : Val) → IsValue a → IsSet a → Answered (GivesSet (InPowerset a))
subsets_answered a p h =
    let members = set_members a p h in
    let w = numbered_list (IsSubsetOf (items_of a)) (2 ^ length (items_of a)) (λ k g. subset_exists (items_of a) k members) in
    set_answered_as w.0 (InPowerset a) (all_subsets a w.0 w.2) (λ s q. q.0)

choices_answered : (keys parts : List Val) → AreKeysAndParts keys parts → Answered (GivesSet (IsChoice keys parts))
choices_answered keys parts a =
    let w = numbered_list (IsChoiceOf keys parts) (ways parts) (λ k g. function_exists (zip keys (choice parts k)) (chosen_pairs keys parts (choice parts k) a (choice_each parts k g))) in
    set_answered_as w.0 (IsChoice keys parts) (all_ways keys parts w.0 a w.2) (λ f c. c.2.valid)

-- the same under another name of the condition
choices_as : (keys parts : List Val) (P : Val → Type 0) → AreKeysAndParts keys parts → ((f : Val) → IsChoice keys parts f ↔ P f) → Answered (GivesSet P)
choices_as keys parts P a same =
    let w = numbered_list (IsChoiceOf keys parts) (ways parts) (λ k g. function_exists (zip keys (choice parts k)) (chosen_pairs keys parts (choice parts k) a (choice_each parts k g))) in
    let all = all_ways keys parts w.0 a w.2 in
    set_answered_as w.0 P (λ f. (λ h. (same f).0 ((all f).0 h), λ h. (all f).1 ((same f).1 h))) (λ f h. ((same f).1 h).2.valid)

functions_answered : (a b : Val) → IsValue a → IsSet a → IsValue b → IsSet b → Answered (GivesSet (InFunctionSet a b))
functions_answered a b p h q k = choices_as (items_of a) (replicate (length (items_of a)) b) (InFunctionSet a b) (domain_and_range a b p h q k) (λ f. in_function_set a b f p h q k)

product_answered : (ss : List Val) → ((s : Val) → Contains ss s → IsSet s) → ((s : Val) → Contains ss s → IsValue s) → Answered (GivesSet (InProduct ss))
product_answered ss sets valid = by_size (at_most_or_above (length ss) max_members)
  where
    by_size : (length ss ≤ max_members) ⊎ (max_members < length ss) → Answered (GivesSet (InProduct ss))
    by_size (inl few) = choices_as (ints_from (pos 1) (length ss)) ss (InProduct ss) (integer_keys ss (length ss) few refl (all_sets 0 ss sets) valid) (λ f. in_product ss (length ss) f refl)
    by_size (inr many) = set_answered_as [] (InProduct ss) (no_long_tuples ss many) (λ f h. h.0)

pub union_answered : (a b : Val) → IsValue a → IsValue b → Answered (GivesSet (InUnion a b))
union_answered a b p q = set_answered_as (items_of a ++ items_of b) (InUnion a b) (λ v. (Contains-append_cases (items_of a) (items_of b) v, back v)) valid
  where
    back : (v : Val) → InUnion a b v → Contains (items_of a ++ items_of b) v
    back v (inl g) = Contains-append_left (items_of a) (items_of b) v g
    back v (inr g) = Contains-append_right (items_of a) (items_of b) v g

    valid : (v : Val) → InUnion a b v → IsValue v
    valid v (inl g) = (member_inner a v p g).valid
    valid v (inr g) = (member_inner b v q g).valid

-- the members of a set that meet what is decided
pub some_answered : (P : Val → Type 0) (a : Val) → IsValue a → IsSet a → ((v : Val) → Decided (P v)) → Answered (GivesSet (λ v. Member v a × P v))
some_answered P a p h f = let t = some_there P a (count_of a) (depth a) p h f (omega arith) (omega arith) in inl (t.one, t.meets)

-- integers one after the other

distance : (y z : ℤ) → y ≤ℤ z → (n : ℕ) × (y +ℤ pos n ≡ z +ℤ pos 1)
distance y z h = by_sign ((z +ℤ pos 1) -ℤ y) refl
  where
    by_sign : (d : ℤ) → (z +ℤ pos 1) -ℤ y ≡ d → (n : ℕ) × (y +ℤ pos n ≡ z +ℤ pos 1)
    by_sign (pos n) e = (n, omega (arith, ints, e))
    by_sign (negsuc n) e = absurd (omega (arith, ints, e, h))

in_order : (y z : ℤ) → (y ≤ℤ z) ⊎ (z <ℤ y)
in_order y z = grind (arith, ints)

interval_answered : (y z : ℤ) → FitsSigned w64 y → FitsSigned w64 z → Answered (GivesSet (InInterval y z))
interval_answered y z f g = elim (in_order y z) [
  | inl h ↦ let n = distance y z h in set_answered_as (ints_from y n.0) (InInterval y z) (interval_is y z n.0 n.1) valid
  | inr h ↦ set_answered_as [] (InInterval y z) (nothing_between y z h) valid
]
  where
    fits : (x : ℤ) → y ≤ℤ x → x ≤ℤ z → FitsSigned w64 x
    fits x a b = omega (arith, ints, a, b, f, g)

    valid : (v : Val) → InInterval y z v → IsValue v
    valid v h = subst (λ (w : Val). IsValue w) (sym h.1) (record { canonical = fits h.0 h.2 h.3; shallow = omega arith })

-- parts

listings_are_values : (ps : Parts) (ss : List Val) → AreListings ps ss → (s : Val) → Contains ss s → IsValue s
listings_are_values NoParts [] l s h = absurd (none_in s h)
listings_are_values NoParts (t ∷ ss) l s h = absurd l
listings_are_values (MoreParts d ps) [] l s h = absurd l
listings_are_values (MoreParts d ps) (t ∷ ss) l s h = elim (cons_cases t ss s h) [
  | inl e ↦ subst (λ (v : Val). IsValue v) e (listed_is d t l.0).valid
  | inr g ↦ listings_are_values ps ss l.1 s g
]

-- all parts are listed, or the first that is not is refused
abbrev PartsAnswered : Parts → Type 0
PartsAnswered ps = ((ss : List Val) × AreListings ps ss) ⊎ ((k : EvalKind) × (n : ℕ) × IsRefused ps (Refused k n))

more_parts : (d : Described) (ps : Parts) → Answered (Listing d) → PartsAnswered ps → PartsAnswered (MoreParts d ps)
more_parts d ps (inl a) (inl b) = inl (a.0 ∷ b.0, (a.1, b.1))
more_parts d ps (inl a) (inr b) = inr (b.0, b.1, inr (a.0, a.1, b.2))
more_parts d ps (inr a) b = inr (a.0, a.1, inl a.2)

both_true : (a b : Bool) → (a && b) ≡ true → (a ≡ true) × (b ≡ true)
both_true true b e = (refl, e)
both_true false b e = cc

-- one row each, where the parts have an answer

before_answered : (d : Described) (Q : Result Val OpFault → Type 0) → Answered (Listing d) → ((s : Val) → Listing d (Ok s) → Answered (λ r. Before (Listing d) Q r)) → Answered (Before (Listing d) Q)
before_answered d Q (inl a) f = f a.0 a.1
before_answered d Q (inr a) f = inr (a.0, a.1, refused_first d Q (Refused a.0 a.1) a.2)

power_row : (d : Described) → Answered (Listing d) → Answered (Listing (PowerOf d))
power_row d a = before_answered d (Collects (PowerOf d)) a (λ s l.
    let o = listed_is d s l in
    answered_as (GivesSet (InPowerset s)) (Listing (PowerOf d)) (λ r q. subsets_listed d s r l (on_set s (GivesSet (InPowerset s)) r o.is_set q)) (subsets_answered s o.valid o.is_set))

functions_row : (a : Val) (d : Described) → IsValue a → IsSet a → Answered (Listing d) → Answered (Listing (Functions a d))
functions_row a d p h g = before_answered d (Collects (Functions a d)) g (λ s l.
    let o = listed_is d s l in
    answered_as (GivesSet (InFunctionSet a s)) (Listing (Functions a d)) (λ r q. functions_listed a d s r h l (on_sets a s (GivesSet (InFunctionSet a s)) r h o.is_set q)) (functions_answered a s p h o.valid o.is_set))

union_row : (c d : Described) → Answered (Listing c) → Answered (Listing d) → Answered (Listing (Union c d))
union_row c d g (inl b) = before_answered c (Before (Listing d) (Collects (Union c d))) g (λ s l.
    let o = listed_is c s l in
    let p = listed_is d b.0 b.1 in
    answered_as (GivesSet (InUnion s b.0)) (Listing (Union c d)) (λ r q. union_listed c d s b.0 r l b.1 (on_sets s b.0 (GivesSet (InUnion s b.0)) r o.is_set p.is_set q)) (union_answered s b.0 o.valid p.valid))
union_row c d g (inr b) = before_answered c (Before (Listing d) (Collects (Union c d))) g (λ s l. inr (b.0, b.1, union_refused c d s (Refused b.0 b.1) l b.2))

inter_row : (c d : Described) → Answered (Listing c) → Answered (Listing (Inter c d))
inter_row c d g = before_answered c (Collects (Inter c d)) g (λ s l.
    let o = listed_is c s l in
    answered_as (GivesSet (IsChosen s d true)) (Listing (Inter c d)) (λ r q. inter_listed c d s r l q) (some_answered (Belongs d) s o.valid o.is_set (belongs_or d)))

minus_row : (c d : Described) → Answered (Listing c) → Answered (Listing (Minus c d))
minus_row c d g = before_answered c (Collects (Minus c d)) g (λ s l.
    let o = listed_is c s l in
    answered_as (GivesSet (IsChosen s d false)) (Listing (Minus c d)) (λ r q. minus_listed c d s r l q) (some_answered (λ v. ¬ Belongs d v) s o.valid o.is_set (λ v. not_or (belongs_or d v))))

product_row : (ps : Parts) → PartsAnswered ps → Answered (Listing (Product ps))
product_row ps (inl a) =
    answered_as (GivesSet (InProduct a.0)) (Listing (Product ps)) (λ r q. product_listed ps a.0 r a.1 q)
    (product_answered a.0 (listings_are_sets ps a.0 a.1) (listings_are_values ps a.0 a.1))
product_row ps (inr a) = inr (a.0, a.1, product_refused ps (Refused a.0 a.1) (inr a.2))

utf8_or : (n : List ℕ) → Decided (IsUtf8 n)
utf8_or n = by_test (is_utf8 n) refl
  where
    by_test : (t : Bool) → is_utf8 n ≡ t → Decided (IsUtf8 n)
    by_test true e = inl (IsUtf8-from_is_utf8 n e)
    by_test false e = inr (λ u. let f : true ≡ false = sym (is_utf8-from_IsUtf8 n u) ∙ e in cc)

strings_are_values : (ns : List (List ℕ)) → ((n : List ℕ) → Contains ns n → IsUtf8 n) → (key : Val) → Contains (map string ns) key → IsValue key
strings_are_values [] u key h = absurd (none_in key h)
strings_are_values (n ∷ ns) u key h = elim (cons_cases (string n) (map string ns) key h) [
  | inl e ↦ subst (λ (v : Val). IsValue v) e (record { canonical = u n (head_in n ns); shallow = omega arith })
  | inr g ↦ strings_are_values ns (λ m i. u m (tail_in n ns m i)) key g
]

-- a record with fields of these names has each of them
has_field : (ns : List (List ℕ)) (ss : List Val) (f : Val) (n : List ℕ) → HasFields ns ss f → Contains ns n → (v : Val) × HasPair f (string n) v
has_field [] ss f n h g = absurd (none_in n g)
has_field (m ∷ ns) [] f n h g = absurd h
has_field (m ∷ ns) (s ∷ ss) f n h g = elim (cons_cases m ns n g) [
  | inl e ↦ (h.0.0, subst (λ (k : List ℕ). HasPair f (string k) h.0.0) e h.0.1)
  | inr i ↦ has_field ns ss f n h.1 i
]

-- no value is a record of a field whose name is no string
no_such_records : (ns : List (List ℕ)) (ss : List Val) (n : List ℕ) → Contains ns n → ¬ IsUtf8 n → (f : Val) → Contains {X = Val} [] f ↔ InRecordSet ns ss f
no_such_records ns ss n g u f = (
  λ h. absurd (none_in f h),
  λ h. let w = has_field ns ss f n h.2 g in absurd (u (pairs_are_values f (string n) w.0 h.0 w.1).0.canonical),
)

records_answered : (fs : Fields) (ss : List Val) → AreDifferent (names_of fs) → FieldsAreSound fs → AreListings (sets_of fs) ss → Answered (GivesSet (InRecordSet (texts_of fs) ss))
records_answered fs ss apart sound l = by_names (all_or_one IsUtf8 (texts_of fs) utf8_or)
  where
    sets : (s : Val) → Contains ss s → IsSet s
    sets = listings_are_sets (sets_of fs) ss l

    beside : length (texts_of fs) ≡ length ss
    beside = length-texts fs ∙ sym (length-listings fs ss l)

    by_size : ((n : List ℕ) → Contains (texts_of fs) n → IsUtf8 n) → (length ss ≤ max_members) ⊎ (max_members < length ss) → Answered (GivesSet (InRecordSet (texts_of fs) ss))
    by_size u (inl few) = choices_as (map string (texts_of fs)) ss (InRecordSet (texts_of fs) ss)
        (string_keys (texts_of fs) ss few beside (texts_different fs sound apart) (all_sets 0 ss sets) (listings_are_values (sets_of fs) ss l) (strings_are_values (texts_of fs) u))
        (λ f. in_record_set (texts_of fs) ss f beside)
    by_size u (inr many) = set_answered_as [] (InRecordSet (texts_of fs) ss) (no_long_records fs ss sound apart (length-listings fs ss l) many) (λ f h. h.0)

    by_names : ((n : List ℕ) → Contains (texts_of fs) n → IsUtf8 n) ⊎ ((n : List ℕ) × Contains (texts_of fs) n × ¬ IsUtf8 n) → Answered (GivesSet (InRecordSet (texts_of fs) ss))
    by_names (inl u) = by_size u (at_most_or_above (length ss) max_members)
    by_names (inr w) = set_answered_as [] (InRecordSet (texts_of fs) ss) (no_such_records (texts_of fs) ss w.0 w.1 w.2) (λ f h. h.0)

records_row : (fs : Fields) → AreDifferent (names_of fs) → FieldsAreSound fs → PartsAnswered (sets_of fs) → Answered (Listing (Records fs))
records_row fs apart sound (inl a) =
    answered_as (GivesSet (InRecordSet (texts_of fs) a.0)) (Listing (Records fs)) (λ r q. records_listed fs a.0 r sound a.1 q) (records_answered fs a.0 apart sound a.1)
records_row fs apart sound (inr a) = inr (a.0, a.1, records_refused fs (Refused a.0 a.1) (inr a.2))

-- all rows
mutual
  listing_answered : (d : Described) → IsSound d → IsMadeOfValues d → is_finite d ≡ true → Answered (Listing d)
  listing_answered Nat s v e = cc
  listing_answered Int s v e = cc
  listing_answered Strings s v e = cc
  listing_answered Booleans s v e = let w = booleans_within in inl (w.listed, (apart Booleans w.listed w.lists).1)
  listing_answered (SeqOf d) s v e = cc
  listing_answered (PowerOf d) s v e = power_row d (listing_answered d s v e)
  listing_answered (Interval y z) s v e = answered_as (GivesSet (InInterval y z)) (Collects (Interval y z)) (λ r. interval_listed y z r v.0 v.1) (interval_answered y z v.0 v.1)
  listing_answered (Functions a d) s v e = functions_row a d v.0 s.0 (listing_answered d s.1 v.1 e)
  listing_answered (Records fs) s v e = records_row fs s.0 s.1 (fields_answered fs s.1 v e)
  listing_answered (Product ps) s v e = product_row ps (parts_answered ps s v e)
  listing_answered (Union c d) s v e = let b = both_true (is_finite c) (is_finite d) e in union_row c d (listing_answered c s.0 v.0 b.0) (listing_answered d s.1 v.1 b.1)
  listing_answered (Inter c d) s v e = inter_row c d (listing_answered c s.0 v.0 e)
  listing_answered (Minus c d) s v e = minus_row c d (listing_answered c s.0 v.0 e)
  listing_answered (Listed a) s v e = inl (a, same_listed a a v s refl)

  fields_answered : (fs : Fields) → FieldsAreSound fs → AreFieldsOfValues fs → fields_are_finite fs ≡ true → PartsAnswered (sets_of fs)
  fields_answered NoFields s v e = inl ([], tt)
  fields_answered (MoreFields n d fs) s v e =
      let b = both_true (is_finite d) (fields_are_finite fs) e in
      more_parts d (sets_of fs) (listing_answered d s.1 v.0 b.0) (fields_answered fs s.2 v.1 b.1)

  parts_answered : (ps : Parts) → PartsAreSound ps → ArePartsOfValues ps → parts_are_finite ps ≡ true → PartsAnswered ps
  parts_answered NoParts s v e = inl ([], tt)
  parts_answered (MoreParts d ps) s v e =
      let b = both_true (is_finite d) (parts_are_finite ps) e in
      more_parts d ps (listing_answered d s.0 v.0 b.0) (parts_answered ps s.1 v.1 b.1)

pub lists_answered : (d : Described) → IsSound d → IsMadeOfValues d → Answered (Lists d)
lists_answered d s v = by_end (is_finite d) refl
  where
    at_end : (b : Bool) → is_finite d ≡ b → (r : Result Val OpFault) → MatchBool b (Listing d r) (r ≡ Err (Refused NotFinite 0)) → Lists d r
    at_end b e r h = subst (λ (t : Bool). MatchBool t (Listing d r) (r ≡ Err (Refused NotFinite 0))) (sym e) h

    by_end : (b : Bool) → is_finite d ≡ b → Answered (Lists d)
    by_end true e = answered_as (Listing d) (Lists d) (at_end true e) (listing_answered d s v e)
    by_end false e = inr (NotFinite, 0, at_end false e (Err (Refused NotFinite 0)) refl)

pub has_some_listing : HasSomeListing
has_some_listing d s v = elim (lists_answered d s v) [
  | inl a ↦ (Ok a.0, a.1, λ e. cc)
  | inr a ↦ (Err (Refused a.0 a.1), a.2, λ e. cc)
]
