-- Sets of tuples and of records: from the bounds of their parts.
use Rattle.std.proofs.Common.{◌≡◌, inl, inr, ℕ, suc, ◌+◌, ◌*◌, ◌<◌, ◌≤◌, max, ℤ, pos, Bool, true, false, List, [], ◌∷◌, length, map, drop, get_or, Ok, ap, sym, ◌∙◌, subst, refl, arith}
use Rattle.std.specs.Prelude.{◌&&◌}
use Rattle.std.specs.List.{Contains}
use Rattle.std.proofs.Math.Nat.{mul-le-mul, mul_assoc}
use Rattle.values_core.specs.Data.{Val, string, depth}
use Rattle.values_core.specs.Ascending.{cons_cases, head_in, tail_in, none_in}
use Rattle.values_core.specs.IsValue.{IsValue, max_members}
use Rattle.values_core.specs.Sets.{items_of}
use Rattle.values_core.specs.SetLaws.{length-items_of}
use Rattle.values_core.specs.SetOperations.{AreDifferent}
use Rattle.values_core.specs.Products.{InProduct, InRecordSet}
use Rattle.values_operations.specs.Choices.{IsChoice}
use Rattle.values_operations.specs.Listed.{ints_from}
use Rattle.values_operations.proofs.Adapted.{integer_keys, in_product, string_keys, in_record_set}
use Rattle.values_operations.proofs.Intervals.{in_ints}
use Rattle.values_operations.proofs.Walking.{first_drop, drop_all}
use Rattle.values_sets.specs.DescribedSets.{Described, Records, Product, Fields, NoFields, MoreFields, Parts, NoParts, MoreParts, parts_list}
use Rattle.values_sets.specs.DescribedViews.{fields_of, parts_of}
use Rattle.values_sets.specs.Membership.{names_of}
use Rattle.values_sets.specs.Soundness.{FieldsAreSound}
use Rattle.values_sets.specs.Listings.{is_finite, fields_are_finite, parts_are_finite}
use Rattle.values_sets.specs.ListedParts.{AreListings, sets_of, texts_of}
use Rattle.values_sets.specs.declared.described.Field.{Field}
use Rattle.values_sets.proofs.Collecting.{listed_is}
use Rattle.values_sets.proofs.Several.{all_sets, length-listings, length-texts, listings_are_sets, product_listed, records_listed, string_names, texts_different}
use Rattle.values_set_bounds.specs.Bounds.{IsListedWithin}
use Rattle.values_set_bounds.specs.PartBounds.{AreBounded, AreWithin, FieldsAreBounded, IsRoom}
use Rattle.values_set_bounds.proofs.Making.{choices_there, there_as}
use Rattle.values_set_bounds.proofs.Listed.{apart, from_there}

-- what is listed are values
listings_are_values : (ps : Parts) (ss : List Val) → AreListings ps ss → (s : Val) → Contains ss s → IsValue s
listings_are_values NoParts [] l s h = absurd (none_in s h)
listings_are_values NoParts (t ∷ ss) l s h = absurd l
listings_are_values (MoreParts d ps) [] l s h = absurd l
listings_are_values (MoreParts d ps) (t ∷ ss) l s h = elim (cons_cases t ss s h) [
  | inl e ↦ subst (λ (v : Val). IsValue v) e (listed_is d t l.0).valid
  | inr g ↦ listings_are_values ps ss l.1 s g
]

length-parts : (ps : Parts) (ss : List Val) → AreListings ps ss → length ss ≡ length (parts_list ps)
length-parts NoParts [] l = refl
length-parts NoParts (s ∷ ss) l = absurd l
length-parts (MoreParts d ps) [] l = absurd l
length-parts (MoreParts d ps) (s ∷ ss) l = ap suc (length-parts ps ss l.1)

flat_ints : (y : ℤ) (n l : ℕ) → 1 ≤ l → (k : Val) → Contains (ints_from y n) k → depth k < l
flat_ints y n l some k h = let w = in_ints y n k h in omega (arith, some, ap depth w.1)

flat_strings : (ns : List (List ℕ)) (l : ℕ) → 1 ≤ l → (k : Val) → Contains (map string ns) k → depth k < l
flat_strings [] l some k h = absurd (none_in k h)
flat_strings (n ∷ ns) l some k h = elim (cons_cases (string n) (map string ns) k h) [
  | inl e ↦ subst (λ (v : Val). depth v < l) e (omega (arith, some))
  | inr g ↦ flat_strings ns l some k g
]

pub tuples_within : (ps : Parts) (n l : ℕ) → AreBounded ps n l → IsListedWithin (Product ps) n (suc l)
tuples_within ps n l v =
    let w = v.within in
    let r = v.room in
    let ss = w.sets in
    let sets = listings_are_sets ps w.sets w.listings in
    let many : length w.sets ≤ 100000 = omega (arith, length-parts ps w.sets w.listings, r.short) in
    let keys = integer_keys ss (length ss) many refl (all_sets 0 ss sets) (listings_are_values ps ss w.listings) in
    let t = there_as (IsChoice (ints_from (pos 1) (length ss)) ss) (InProduct ss) n (suc l) (λ f. in_product ss (length ss) f refl)
    (choices_there (ints_from (pos 1) (length ss)) ss n l keys w.few r.few r.some r.fits (flat_ints (pos 1) (length ss) l r.some) w.shallow) in
    from_there (Product ps) (InProduct ss) n (suc l) (λ s i. cc) w.finite t (product_listed ps ss (Ok t.one) w.listings t.meets)

finite_fields : (fs : Fields) → parts_are_finite (sets_of fs) ≡ fields_are_finite fs
finite_fields NoFields = refl
finite_fields (MoreFields n d fs) = ap (λ b. is_finite d && b) (finite_fields fs)

pub records_within : (fs : Fields) (n l : ℕ) → AreDifferent (names_of fs) → FieldsAreSound fs → FieldsAreBounded fs n l → IsListedWithin (Records fs) n (suc l)
records_within fs n l d sound v =
    let w = v.within in
    let r = v.room in
    let ss = w.sets in
    let ns = texts_of fs in
    let sets = listings_are_sets (sets_of fs) w.sets w.listings in
    let as_many = length-listings fs w.sets w.listings in
    let many : length w.sets ≤ 100000 = omega (arith, as_many, r.short) in
    let beside : length (texts_of fs) ≡ length w.sets = length-texts fs ∙ sym as_many in
    let keys = string_keys ns ss many beside (texts_different fs sound d) (all_sets 0 ss sets) (listings_are_values (sets_of fs) ss w.listings)
    (λ k h. v.named k (subst (λ (ks : List Val). Contains ks k) (string_names fs sound) h)) in
    let t = there_as (IsChoice (map string ns) ss) (InRecordSet ns ss) n (suc l) (λ f. in_record_set ns ss f beside)
    (choices_there (map string ns) ss n l keys w.few r.few r.some r.fits (flat_strings ns l r.some) w.shallow) in
    from_there (Records fs) (InRecordSet ns ss) n (suc l) (λ s i. cc) (sym (finite_fields fs) ∙ w.finite) t (records_listed fs ss (Ok t.one) sound w.listings t.meets)

-- What is still ahead: what bounds the rest bounds the whole, beside the bounds so far.
pub record Ahead (whole rest : Parts) (count levels : ℕ) : Type 0 where
  pub some : 1 ≤ levels
  pub fits : levels ≤ 31
  pub few : count ≤ max_members
  pub on : (n l : ℕ) → AreWithin rest n l → AreWithin whole (count * n) (max levels l)

one_times : (n : ℕ) → 1 * n ≡ n
one_times n = omega arith

-- the same parts within wider bounds
wider : (ps : Parts) (n m l k : ℕ) → n ≤ m → l ≤ k → AreWithin ps n l → AreWithin ps m k
wider ps n m l k f g w = record { sets = w.sets; finite = w.finite; listings = w.listings; few = omega (arith, f, w.few); shallow = λ s h. omega (arith, g, w.shallow s h) }

pub ahead_first : (ps : Parts) → Ahead ps ps 1 1
ahead_first ps = record { some = omega arith; fits = omega arith; few = omega arith; on = λ n l w. wider ps n (1 * n) l (max 1 l) (omega arith) (omega arith) w }

both_true : (a b : Bool) → a ≡ true → b ≡ true → (a && b) ≡ true
both_true true b e f = f
both_true false b e f = cc

one_more : (d : Described) (ps : Parts) (n l m k : ℕ) → IsListedWithin d n l → AreWithin ps m k → AreWithin (MoreParts d ps) (n * m) (max l k)
one_more d ps n l m k v w =
    let p = apart d v.listed v.lists in
    let first : length (items_of v.listed) ≤ n = omega (arith, v.few, length-items_of v.listed) in
    record {
      sets = v.listed ∷ w.sets;
      finite = both_true (is_finite d) (parts_are_finite ps) p.0 w.finite;
      listings = (p.1, w.listings);
      few = mul-le-mul first w.few;
      shallow = λ s h. elim (cons_cases v.listed w.sets s h) [
        | inl e ↦ omega (arith, ap depth e, v.shallow)
        | inr g ↦ omega (arith, w.shallow s g)
      ];
    }

pub ahead_more : (whole rest : Parts) (d : Described) (n l m k : ℕ) → n * m ≤ max_members → max l k ≤ 31 → IsListedWithin d m k → Ahead whole (MoreParts d rest) n l → Ahead whole rest (n * m) (max l k)
ahead_more whole rest d n l m k few fits v a = record {
  some = omega (arith, a.some);
  fits = fits;
  few = few;
  on = λ j i w.
      let more = a.on (m * j) (max k i) (one_more d rest m k j i v w) in
      wider whole (n * (m * j)) ((n * m) * j) (max l (max k i)) (max (max l k) i) (omega (arith, mul_assoc n m j)) (omega arith) more;
}

-- the same under other names of the numbers
ahead_as : (whole rest : Parts) (n m l k : ℕ) → n ≡ m → l ≡ k → m ≤ max_members → k ≤ 31 → (n ≤ max_members → l ≤ 31 → Ahead whole rest n l) → Ahead whole rest m k
ahead_as whole rest n m l k e f few fits a =
    subst (λ i. Ahead whole rest i k) e (subst (λ i. Ahead whole rest n i) f (a (omega (arith, e, few)) (omega (arith, f, fits))))

ahead_end : (whole : Parts) (n l : ℕ) → Ahead whole NoParts n l → AreWithin whole n l
ahead_end whole n l a =
    let w = a.on 1 0 (record { sets = []; finite = refl; listings = tt; few = omega arith; shallow = λ s h. absurd (none_in s h) }) in
    wider whole (n * 1) n (max l 0) l (omega arith) (omega arith) w

room_at_end : (whole rest : Parts) (m n l : ℕ) → m ≤ max_members → Ahead whole rest n l → IsRoom m n l
room_at_end whole rest m n l short a = record { short = short; few = a.few; some = a.some; fits = a.fits }

length-items : (xs : List Described) → length (parts_list (parts_of xs)) ≡ length xs
length-items [] = refl
length-items (x ∷ xs) = ap suc (length-items xs)

length-fields : (xs : List Field) → length (names_of (fields_of xs)) ≡ length xs
length-fields [] = refl
length-fields (x ∷ xs) = ap suc (length-fields xs)

-- the loops over the parts and over the fields
pub part_step : (xs : List Described) (i : ℕ) (x : Described) (n l m k j o : ℕ) → i < length xs → x ≡ get_or xs i x → j ≡ n * m → j ≤ max_members → o ≡ max l k → o ≤ 31 → IsListedWithin x m k → Ahead (parts_of xs) (parts_of (drop i xs)) n l
    → Ahead (parts_of xs) (parts_of (drop (i + 1) xs)) j o
part_step xs i x n l m k j o h e same few deep fits v a =
    ahead_as (parts_of xs) (parts_of (drop (i + 1) xs)) (n * m) j (max l k) o (sym same) (sym deep) few fits (λ few fits.
    ahead_more (parts_of xs) (parts_of (drop (i + 1) xs)) x n l m k few fits v (subst (λ (ps : Parts). Ahead (parts_of xs) ps n l) (ap parts_of (first_drop xs i x h e)) a))

pub part_end : (xs : List Described) (ps : Parts) (i n l : ℕ) → parts_of xs ≡ ps → length xs ≤ max_members → length xs ≤ i → Ahead (parts_of xs) (parts_of (drop i xs)) n l → AreBounded ps n l
part_end xs ps i n l back short h a =
    subst (λ (qs : Parts). AreBounded qs n l) back (record {
      within = ahead_end (parts_of xs) n l (subst (λ (ys : List Described). Ahead (parts_of xs) (parts_of ys) n l) (drop_all xs i h) a);
      room = room_at_end (parts_of xs) (parts_of (drop i xs)) (length (parts_list (parts_of xs))) n l (omega (arith, short, length-items xs)) a;
    })

pub field_step : (xs : List Field) (i : ℕ) (x : Field) (n l m k j o : ℕ) → i < length xs → x ≡ get_or xs i x → j ≡ n * m → j ≤ max_members → o ≡ max l k → o ≤ 31 → IsListedWithin x.part m k → Ahead (sets_of (fields_of xs)) (sets_of (fields_of (drop i xs))) n l
    → Ahead (sets_of (fields_of xs)) (sets_of (fields_of (drop (i + 1) xs))) j o
field_step xs i x n l m k j o h e same few deep fits v a =
    ahead_as (sets_of (fields_of xs)) (sets_of (fields_of (drop (i + 1) xs))) (n * m) j (max l k) o (sym same) (sym deep) few fits (λ few fits.
    ahead_more (sets_of (fields_of xs)) (sets_of (fields_of (drop (i + 1) xs))) x.part n l m k few fits v
    (subst (λ (ps : Parts). Ahead (sets_of (fields_of xs)) ps n l) (ap (λ (ys : List Field). sets_of (fields_of ys)) (first_drop xs i x h e)) a))

names_valid : (xs : List Field) → ((x : Field) → Contains xs x → IsValue x.name) → (key : Val) → Contains (names_of (fields_of xs)) key → IsValue key
names_valid [] f key h = absurd (none_in key h)
names_valid (x ∷ xs) f key h = elim (cons_cases x.name (names_of (fields_of xs)) key h) [
  | inl e ↦ subst (λ (v : Val). IsValue v) e (f x (head_in x xs))
  | inr g ↦ names_valid xs (λ y i. f y (tail_in x xs y i)) key g
]

pub field_end : (xs : List Field) (fs : Fields) (i n l : ℕ) → fields_of xs ≡ fs → length xs ≤ max_members → length xs ≤ i → ((x : Field) → Contains xs x → IsValue x.name) → Ahead (sets_of (fields_of xs)) (sets_of (fields_of (drop i xs))) n l
    → FieldsAreBounded fs n l
field_end xs fs i n l back short h named a =
    subst (λ (gs : Fields). FieldsAreBounded gs n l) back (record {
      within = ahead_end (sets_of (fields_of xs)) n l (subst (λ (ys : List Field). Ahead (sets_of (fields_of xs)) (sets_of (fields_of ys)) n l) (drop_all xs i h) a);
      named = names_valid xs named;
      room = room_at_end (sets_of (fields_of xs)) (sets_of (fields_of (drop i xs))) (length (names_of (fields_of xs))) n l (omega (arith, short, length-fields xs)) a;
    })
