-- Loops over the parts of a described set, by what is left of the list.
use Rattle.std.proofs.Common.{◌≡◌, ◌↔◌, inl, inr, ℕ, zero, suc, ◌+◌, ◌<◌, ◌≤◌, List, [], ◌∷◌, ◌++◌, length, take, drop, get_or, Bool, true, false, cond, IsTrue, Ok, Err, ap, sym, ◌∙◌, subst, refl, arith, append_assoc, append-nil}
use Rattle.std.specs.Prelude.{◌&&◌, Contains, MatchBool, slice_get, Some}
use Rattle.std.proofs.lemmas.List.{take_more}
use Rattle.std.proofs.lemmas.List.Elements.{Contains-append_left, Contains-append_right, Contains-append_cases}
use Rattle.values_core.specs.Data.{Val}
use Rattle.values_core.specs.Ascending.{cons_cases, head_in, none_in}
use Rattle.values_core.specs.declared.fault.OpFault.{OpFault}
use Rattle.values_operations.proofs.Walking.{first_drop, drop_all}
use Rattle.values_sets.specs.DescribedSets.{Described, Fields, Parts, NoParts, MoreParts}
use Rattle.values_sets.specs.DescribedViews.{fields_of, parts_of}
use Rattle.values_sets.specs.Listings.{Listing, is_finite, fields_are_finite, parts_are_finite}
use Rattle.values_sets.specs.Membership.{Belongs}
use Rattle.values_sets.specs.Soundness.{IsString, FieldsAreSound}
use Rattle.values_sets.specs.ListedParts.{AreListings, IsRefused, MayBeRefused, sets_of, text_in, texts_of}
use Rattle.values_sets.specs.declared.described.Field.{Field}

pub both : (a b : Bool) → (a && b) ≡ true → (a ≡ true) × (b ≡ true)
both true b e = (refl, e)
both false b e = cc

-- whether all have an end
pub parts_pass : (xs : List Described) (i : ℕ) (x : Described) → i < length xs → x ≡ get_or xs i x → is_finite x ≡ true → parts_are_finite (parts_of (drop i xs)) ≡ parts_are_finite (parts_of (drop (i + 1) xs))
parts_pass xs i x h e f = ap (λ ys. parts_are_finite (parts_of ys)) (first_drop xs i x h e) ∙ ap (λ b. b && parts_are_finite (parts_of (drop (i + 1) xs))) f

pub parts_stop : (xs : List Described) (i : ℕ) (x : Described) → i < length xs → x ≡ get_or xs i x → is_finite x ≡ false → parts_are_finite (parts_of (drop i xs)) ≡ false
parts_stop xs i x h e f = ap (λ ys. parts_are_finite (parts_of ys)) (first_drop xs i x h e) ∙ ap (λ b. b && parts_are_finite (parts_of (drop (i + 1) xs))) f

pub parts_end : (xs : List Described) (i : ℕ) → length xs ≤ i → parts_are_finite (parts_of (drop i xs)) ≡ true
parts_end xs i h = ap (λ ys. parts_are_finite (parts_of ys)) (drop_all xs i h)

pub fields_pass : (xs : List Field) (i : ℕ) (x : Field) → i < length xs → x ≡ get_or xs i x → is_finite x.part ≡ true → fields_are_finite (fields_of (drop i xs)) ≡ fields_are_finite (fields_of (drop (i + 1) xs))
fields_pass xs i x h e f = ap (λ ys. fields_are_finite (fields_of ys)) (first_drop xs i x h e) ∙ ap (λ b. b && fields_are_finite (fields_of (drop (i + 1) xs))) f

pub fields_stop : (xs : List Field) (i : ℕ) (x : Field) → i < length xs → x ≡ get_or xs i x → is_finite x.part ≡ false → fields_are_finite (fields_of (drop i xs)) ≡ false
fields_stop xs i x h e f = ap (λ ys. fields_are_finite (fields_of ys)) (first_drop xs i x h e) ∙ ap (λ b. b && fields_are_finite (fields_of (drop (i + 1) xs))) f

pub fields_end : (xs : List Field) (i : ℕ) → length xs ≤ i → fields_are_finite (fields_of (drop i xs)) ≡ true
fields_end xs i h = ap (λ ys. fields_are_finite (fields_of ys)) (drop_all xs i h)

-- what is listed so far, and what the rest lists as, are what all the parts list as; and a refusal of the rest is one of all
pub record ListsRest (all rest : Parts) (done : List Val) : Type 0 where
  pub listed : (ss : List Val) → AreListings rest ss → AreListings all (done ++ ss)
  pub refused : (e : OpFault) → IsRefused rest e → IsRefused all e

pub lists_first : (all : Parts) → ListsRest all all []
lists_first all = record { listed = λ ss l. l; refused = λ e r. r }

pub lists_more : (all rest : Parts) (d : Described) (done : List Val) (s : Val) → Listing d (Ok s) → ListsRest all (MoreParts d rest) done → ListsRest all rest (done ++ s ∷ [])
lists_more all rest d done s h r = record {
  listed = λ ss l. subst (λ (zs : List Val). AreListings all zs) (sym (append_assoc done (s ∷ []) ss)) (r.listed (s ∷ ss) (h, l));
  refused = λ e k. r.refused e (inr (s, h, k));
}

pub lists_stop : (all rest : Parts) (d : Described) (done : List Val) (e : OpFault) → Listing d (Err e) → ListsRest all (MoreParts d rest) done → IsRefused all e
lists_stop all rest d done e h r = r.refused e (inl h)

pub lists_end : (all : Parts) (done : List Val) → ListsRest all NoParts done → AreListings all done
lists_end all done r = subst (λ (zs : List Val). AreListings all zs) (append-nil done) (r.listed [] tt)

-- the parts of a list of parts are finite and sound
pub part_finite : (xs : List Described) (i : ℕ) (x : Described) → slice_get xs i ≡ Some x → parts_are_finite (parts_of xs) ≡ true → is_finite x ≡ true
part_finite [] i x e f = cc
part_finite (y ∷ ys) zero x e f = let same : y ≡ x = cc in subst (λ (z : Described). is_finite z ≡ true) same (both (is_finite y) (parts_are_finite (parts_of ys)) f).0
part_finite (y ∷ ys) (suc i) x e f = part_finite ys i x e (both (is_finite y) (parts_are_finite (parts_of ys)) f).1

pub field_finite : (xs : List Field) (i : ℕ) (x : Field) → slice_get xs i ≡ Some x → fields_are_finite (fields_of xs) ≡ true → is_finite x.part ≡ true
field_finite [] i x e f = cc
field_finite (y ∷ ys) zero x e f = let same : y ≡ x = cc in subst (λ (z : Field). is_finite z.part ≡ true) same (both (is_finite y.part) (fields_are_finite (fields_of ys)) f).0
field_finite (y ∷ ys) (suc i) x e f = field_finite ys i x e (both (is_finite y.part) (fields_are_finite (fields_of ys)) f).1

-- the parts of a list of parts, one after another
rest_of_parts : (xs : List Described) (i : ℕ) (x : Described) (done : List Val) → i < length xs → x ≡ get_or xs i x → ListsRest (parts_of xs) (parts_of (drop i xs)) done → ListsRest (parts_of xs) (MoreParts x (parts_of (drop (i + 1) xs))) done
rest_of_parts xs i x done h e r = subst (λ (qs : Parts). ListsRest (parts_of xs) qs done) (ap parts_of (first_drop xs i x h e)) r

pub part_stop : (xs : List Described) (ps : Parts) (i : ℕ) (x : Described) (done : List Val) (e : OpFault) → parts_of xs ≡ ps → i < length xs → x ≡ get_or xs i x → Listing x (Err e) → ListsRest (parts_of xs) (parts_of (drop i xs)) done → MayBeRefused ps e
part_stop xs ps i x done e back h is l r = inr (subst (λ (qs : Parts). IsRefused qs e) back (lists_stop (parts_of xs) (parts_of (drop (i + 1) xs)) x done e l (rest_of_parts xs i x done h is r)))

pub part_step : (xs : List Described) (i : ℕ) (x : Described) (done : List Val) (s : Val) → i < length xs → x ≡ get_or xs i x → Listing x (Ok s) → ListsRest (parts_of xs) (parts_of (drop i xs)) done → ListsRest (parts_of xs) (parts_of (drop (i + 1) xs)) (done ++ s ∷ [])
part_step xs i x done s h is l r = lists_more (parts_of xs) (parts_of (drop (i + 1) xs)) x done s l (rest_of_parts xs i x done h is r)

pub part_end : (xs : List Described) (ps : Parts) (i : ℕ) (done : List Val) → parts_of xs ≡ ps → length xs ≤ i → ListsRest (parts_of xs) (parts_of (drop i xs)) done → AreListings ps done
part_end xs ps i done back h r =
    subst (λ (qs : Parts). AreListings qs done) back (lists_end (parts_of xs) done (subst (λ (ys : List Described). ListsRest (parts_of xs) (parts_of ys) done) (drop_all xs i h) r))

-- the same of fields
rest_of_fields : (xs : List Field) (i : ℕ) (x : Field) (done : List Val) → i < length xs → x ≡ get_or xs i x → ListsRest (sets_of (fields_of xs)) (sets_of (fields_of (drop i xs))) done → ListsRest (sets_of (fields_of xs)) (MoreParts x.part (sets_of (fields_of (drop (i + 1) xs)))) done
rest_of_fields xs i x done h e r = subst (λ (qs : Parts). ListsRest (sets_of (fields_of xs)) qs done) (ap (λ (ys : List Field). sets_of (fields_of ys)) (first_drop xs i x h e)) r

pub field_stop : (xs : List Field) (fs : Fields) (i : ℕ) (x : Field) (done : List Val) (e : OpFault) → fields_of xs ≡ fs → i < length xs → x ≡ get_or xs i x → Listing x.part (Err e) → ListsRest (sets_of (fields_of xs)) (sets_of (fields_of (drop i xs))) done → MayBeRefused (sets_of fs) e
field_stop xs fs i x done e back h is l r = inr (subst (λ (gs : Fields). IsRefused (sets_of gs) e) back (lists_stop (sets_of (fields_of xs)) (sets_of (fields_of (drop (i + 1) xs))) x.part done e l (rest_of_fields xs i x done h is r)))

pub field_step : (xs : List Field) (i : ℕ) (x : Field) (done : List Val) (s : Val) → i < length xs → x ≡ get_or xs i x → Listing x.part (Ok s) → ListsRest (sets_of (fields_of xs)) (sets_of (fields_of (drop i xs))) done → ListsRest (sets_of (fields_of xs)) (sets_of (fields_of (drop (i + 1) xs))) (done ++ s ∷ [])
field_step xs i x done s h is l r = lists_more (sets_of (fields_of xs)) (sets_of (fields_of (drop (i + 1) xs))) x.part done s l (rest_of_fields xs i x done h is r)

pub field_end : (xs : List Field) (fs : Fields) (i : ℕ) (done : List Val) → fields_of xs ≡ fs → length xs ≤ i → ListsRest (sets_of (fields_of xs)) (sets_of (fields_of (drop i xs))) done → AreListings (sets_of fs) done
field_end xs fs i done back h r =
    subst (λ (gs : Fields). AreListings (sets_of gs) done) back (lists_end (sets_of (fields_of xs)) done (subst (λ (ys : List Field). ListsRest (sets_of (fields_of xs)) (sets_of (fields_of ys)) done) (drop_all xs i h) r))

-- the names of fields as texts, one after another
pub name_string : (xs : List Field) (i : ℕ) (x : Field) → slice_get xs i ≡ Some x → FieldsAreSound (fields_of xs) → IsString x.name
name_string [] i x e s = cc
name_string (y ∷ ys) zero x e s = let same : y ≡ x = cc in subst (λ (z : Field). IsString z.name) same s.0
name_string (y ∷ ys) (suc i) x e s = name_string ys i x e s.2

pub text_step : (done : List (List ℕ)) (xs : List Field) (i : ℕ) (x : Field) → i < length xs → x ≡ get_or xs i x → done ++ texts_of (fields_of (drop i xs)) ≡ texts_of (fields_of xs) → (done ++ text_in x.name ∷ []) ++ texts_of (fields_of (drop (i + 1) xs)) ≡ texts_of (fields_of xs)
text_step done xs i x h e r =
    append_assoc done (text_in x.name ∷ []) (texts_of (fields_of (drop (i + 1) xs)))
    ∙ ap (λ (ys : List Field). done ++ texts_of (fields_of ys)) (sym (first_drop xs i x h e)) ∙ r

pub text_end : (done : List (List ℕ)) (xs : List Field) (fs : Fields) (i : ℕ) → fields_of xs ≡ fs → length xs ≤ i → done ++ texts_of (fields_of (drop i xs)) ≡ texts_of (fields_of xs) → done ≡ texts_of fs
text_end done xs fs i back h r =
    sym (append-nil done) ∙ ap (λ (ys : List Field). done ++ texts_of (fields_of ys)) (sym (drop_all xs i h)) ∙ r ∙ ap texts_of back

-- what a loop that chooses has kept
pub record Keeps (s : List Val) (d : Described) (inside : Bool) (i : ℕ) (kept : List Val) : Type 0 where
  pub there : (v : Val) → Contains kept v → Contains (take i s) v × MatchBool inside (Belongs d v) (¬ Belongs d v)
  pub back : (v : Val) → Contains (take i s) v → MatchBool inside (Belongs d v) (¬ Belongs d v) → Contains kept v

pub keeps_none : (s : List Val) (d : Described) (inside : Bool) → Keeps s d inside 0 []
keeps_none s d inside = record { there = λ v h. absurd (none_in v h); back = λ v h m. absurd (none_in v h) }

pub keeps_more : (s : List Val) (d : Described) (inside : Bool) (i : ℕ) (kept : List Val) (x : Val) (keep : Bool) → i < length s → x ≡ get_or s i x → (IsTrue keep ↔ MatchBool inside (Belongs d x) (¬ Belongs d x)) → Keeps s d inside i kept
    → Keeps s d inside (i + 1) (kept ++ cond keep (x ∷ []) [])
keeps_more s d inside i kept x keep h e w k = record { there = there; back = back }
  where
    longer : take (i + 1) s ≡ take i s ++ x ∷ []
    longer = take_more s i x h ∙ ap (λ y. take i s ++ y ∷ []) (sym e)

    just : (b : Bool) → (IsTrue b ↔ MatchBool inside (Belongs d x) (¬ Belongs d x)) → (v : Val) → Contains (cond b (x ∷ []) []) v → (x ≡ v) × MatchBool inside (Belongs d x) (¬ Belongs d x)
    just false u v g = absurd (none_in v g)
    just true u v g = elim (cons_cases x [] v g) [
      | inl f ↦ (f, u.0 refl)
      | inr j ↦ absurd (none_in v j)
    ]

    there : (v : Val) → Contains (kept ++ cond keep (x ∷ []) []) v → Contains (take (i + 1) s) v × MatchBool inside (Belongs d v) (¬ Belongs d v)
    there v g = subst (λ (ys : List Val). Contains ys v × MatchBool inside (Belongs d v) (¬ Belongs d v)) (sym longer) (elim (Contains-append_cases kept (cond keep (x ∷ []) []) v g) [
      | inl f ↦ let o = k.there v f in (Contains-append_left (take i s) (x ∷ []) v o.0, o.1)
      | inr f ↦
          let o = just keep w v f in
          (Contains-append_right (take i s) (x ∷ []) v (subst (λ (y : Val). Contains (x ∷ []) y) o.0 (head_in x [])), subst (λ (y : Val). MatchBool inside (Belongs d y) (¬ Belongs d y)) o.0 o.1)
    ])

    back : (v : Val) → Contains (take (i + 1) s) v → MatchBool inside (Belongs d v) (¬ Belongs d v) → Contains (kept ++ cond keep (x ∷ []) []) v
    back v g m = elim (Contains-append_cases (take i s) (x ∷ []) v (subst (λ (ys : List Val). Contains ys v) longer g)) [
      | inl f ↦ Contains-append_left kept (cond keep (x ∷ []) []) v (k.back v f m)
      | inr f ↦ elim (cons_cases x [] v f) [
        | inl q ↦
            let yes : keep ≡ true = w.1 (subst (λ (y : Val). MatchBool inside (Belongs d y) (¬ Belongs d y)) (sym q) m) in
            Contains-append_right kept (cond keep (x ∷ []) []) v (subst (λ (b : Bool). Contains (cond b (x ∷ []) []) v) (sym yes) (subst (λ (y : Val). Contains (x ∷ []) y) q (head_in x [])))
        | inr j ↦ absurd (none_in v j)
      ]
    ]

pub keeps_all : (s all : List Val) (d : Described) (inside : Bool) (i : ℕ) (kept : List Val) → s ≡ all → length s ≤ i → Keeps s d inside i kept → (v : Val) → Contains kept v ↔ (Contains all v × MatchBool inside (Belongs d v) (¬ Belongs d v))
keeps_all s all d inside i kept e h k v =
    let whole : take i s ≡ all = taken s i h ∙ e in (
      λ g. let o = k.there v g in (subst (λ (ys : List Val). Contains ys v) whole o.0, o.1),
      λ g. k.back v (subst (λ (ys : List Val). Contains ys v) (sym whole) g.0) g.1,
    )
  where
    taken : (xs : List Val) (n : ℕ) → length xs ≤ n → take n xs ≡ xs
    taken [] zero g = refl
    taken [] (suc n) g = refl
    taken (x ∷ xs) zero g = absurd (omega arith)
    taken (x ∷ xs) (suc n) g = ap (λ ys. x ∷ ys) (taken xs n (omega arith))
