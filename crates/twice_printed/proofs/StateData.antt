-- The JSON of a state that is printed: it is not deep, and it has the state's values at the names of the variables.
use Rattle.std.proofs.Common.{◌≡◌, ◌≢◌, inl, inr, ℕ, zero, suc, ◌<◌, ◌≤◌, List, [], ◌∷◌, length, get_or, Bool, true, false, ◌||◌, Option, Some, None, is_some, Ordering, Less, Equal, Greater, refl, sym, ap, ◌∙◌, subst, arith, true≢false, All, AllPairs, IsUtf8, slice_get}
use Rattle.std.proofs.lemmas.Bool.{and_from, cases_eq}
use Rattle.std.proofs.lemmas.List.Elements.{All-get_or}
use Rattle.std.proofs.lemmas.Option.{get_or_from_slice_get, slice_get-get_or, slice_get_within}
use Rattle.std.specs.Cmp.Lexicographic.{slice_cmp, nat_list_eq_equiv}
use Rattle.std.specs.List.{AllByRecursion, list_all, list_any}
use Rattle.std.specs.Ordering.{match_ordering, nat_cmp}
use Rattle.std.specs.Str.{bytes_eq}
use Rattle.serde_json.specs.Data.{Data, Members, depth, members_depth}
use Rattle.serde_json.specs.Find.{get_member}
use Rattle.values_core.specs.Data as tla
use Rattle.values_core.specs.Data.{Val, truth}
use Rattle.values_core.specs.IsValue.{IsValue}
use Rattle.values_json.specs.Prints.{prints, PrintsReadBack}
use Rattle.states_core.specs.States.{Values}
use Rattle.states_files.specs.States.{ReadsAt, StateReads, are_known, are_there, is_among}
use Rattle.run_texts.specs.Places.{name_at, text_or_none}
use Rattle.run_texts.specs.States.{in_order}
use Rattle.run_texts.specs.Ordered.{OrderAscends}
use Rattle.twice_printed.proofs.CleanData.{IsClean, HaveClean, KeysAbove}
use Rattle.twice_printed.proofs.CleanValues.{clean, depth_printed}
use Rattle.twice_printed.proofs.FieldOrder.{Rises, equal_itself, equal_same, in_order_below_length, in_order_has, in_order_rises, names_apart, name_is}
use Rattle.twice_printed.proofs.ShownData.{AreGiven, fields_data, state_data, value_data}

passed : (o : Ordering) (a b : Option Data) → ¬ (o ≡ Equal) → match_ordering o a b a ≡ a
passed Less a b n = refl
passed Equal a b n = absurd (n refl)
passed Greater a b n = refl

either_way : (a b : Bool) → a ≡ true → (a || b) ≡ true
either_way true b e = refl
either_way false b e = absurd (true≢false (sym e))

or_later : (a b : Bool) → b ≡ true → (a || b) ≡ true
or_later true b e = refl
or_later false b e = e

-- a name is among the names
among : (k : List ℕ) (names : List (List ℕ)) (n : ℕ) → slice_get names n ≡ Some k → list_any (λ m. bytes_eq m k) names ≡ true
among k [] n e = absurd cc
among k (m ∷ names) zero e = let same : m ≡ k = cc in either_way (bytes_eq m k) (list_any (λ l. bytes_eq l k) names) (ap (λ (l : List ℕ). bytes_eq l k) same ∙ nat_list_eq_equiv.refl k)
among k (m ∷ names) (suc n) e = or_later (bytes_eq m k) (list_any (λ l. bytes_eq l k) names) (among k names n e)

there_is : (o : Option Data) (v : Val) → ReadsAt o v → is_some o ≡ true
there_is None v h = absurd h
there_is (Some d) v h = refl

-- where the values are read, each name is there
all_there : (ms : Members) (names : List (List ℕ)) (s : Values) → StateReads ms names s → list_all (λ name. is_some (get_member name ms)) names ≡ true
all_there ms [] s h = refl
all_there ms (name ∷ names) [] h = absurd h
all_there ms (name ∷ names) (v ∷ s) h = and_from (is_some (get_member name ms)) (list_all (λ n. is_some (get_member n ms)) names) (there_is (get_member name ms) v h.0) (all_there ms names s h.1)

reads_each : (ms : Members) (names : List (List ℕ)) (s : Values) → length s ≡ length names
    → ((i : ℕ) (name : List ℕ) (v : Val) → slice_get names i ≡ Some name → slice_get s i ≡ Some v → ReadsAt (get_member name ms) v) → StateReads ms names s
reads_each ms [] [] e f = tt
reads_each ms [] (v ∷ s) e f = absurd (omega (arith, e))
reads_each ms (name ∷ names) [] e f = absurd (omega (arith, e))
reads_each ms (name ∷ names) (v ∷ s) e f = (f 0 name v refl refl, reads_each ms names s (omega (arith, e)) (λ i k w p q. f (suc i) k w p q))

clean_given : (o : Option Val) (v : Val) → o ≡ Some v → IsValue v → IsClean (value_data o)
clean_given o v e h = subst (λ (p : Option Val). IsClean (value_data p)) (sym e) (clean v h.canonical)

low_given : (o : Option Val) (v : Val) → o ≡ Some v → IsValue v → depth (value_data o) ≤ 97
low_given o v e h =
    subst (λ (p : Option Val). depth (value_data p) ≤ 97) (sym e) (let low = depth_printed v in let deep : tla.depth v ≤ 32 = h.shallow in omega (arith, low, deep))

module _ (names : List (List ℕ)) (s : Values) (differ : AllPairs (λ a b. a ≢ b) names) (texts : All IsUtf8 names) (whole : length s ≡ length names) (values : All IsValue s) where
  given : (n : ℕ) → n < length names → (v : Val) × (slice_get s n ≡ Some v) × IsValue v
  given n h = (get_or s n (truth true), slice_get-get_or s n (truth true) (omega (arith, h, whole)), All-get_or IsValue s n (truth true) (omega (arith, h, whole)) values)

  text : (n : ℕ) → n < length names → IsUtf8 (name_at names n)
  text n h = subst IsUtf8 (sym (name_is names n h)) (All-get_or IsUtf8 names n [] h texts)

  are_given : (ns : List ℕ) → AllByRecursion (λ m. m < length names) ns → AreGiven s ns
  are_given [] h = tt
  are_given (n ∷ ns) h = let one = given n h.0 in ((one.0, one.1), are_given ns h.1)

  above : (n : ℕ) (ms : List ℕ) → AllByRecursion (λ m. slice_cmp nat_cmp (name_at names n) (name_at names m) ≡ Less) ms → KeysAbove (name_at names n) (fields_data names s ms)
  above n [] h = tt
  above n (m ∷ ms) h = (h.0, above n ms h.1)

  fields_clean : (ns : List ℕ) → AllByRecursion (λ m. m < length names) ns → Rises names ns → HaveClean (fields_data names s ns)
  fields_clean [] h up = tt
  fields_clean (n ∷ ns) h up =
      let one = given n h.0 in
      (text n h.0, clean_given (slice_get s n) one.0 one.1 one.2, above n ns up.0, fields_clean ns h.1 up.1)

  fields_low : (ns : List ℕ) → AllByRecursion (λ m. m < length names) ns → members_depth (fields_data names s ns) ≤ 97
  fields_low [] h = omega arith
  fields_low (n ∷ ns) h =
      let one = given n h.0 in let low = low_given (slice_get s n) one.0 one.1 one.2 in let more = fields_low ns h.1 in omega (arith, low, more)

  fields_known : (ns : List ℕ) → AllByRecursion (λ m. m < length names) ns → are_known names (fields_data names s ns) ≡ true
  fields_known [] h = refl
  fields_known (n ∷ ns) h =
      and_from (is_among (name_at names n) names) (are_known names (fields_data names s ns))
      (among (name_at names n) names n (slice_get-get_or names n [] h.0 ∙ ap Some (sym (name_is names n h.0)))) (fields_known ns h.1)

  found : (i k : ℕ) (ns : List ℕ) → i < length names → AllByRecursion (λ m. m < length names) ns → k < length ns → get_or ns k i ≡ i
      → get_member (name_at names i) (fields_data names s ns) ≡ Some (value_data (slice_get s i))
  found i k [] b h l e = absurd (omega (arith, l))
  found i k (n ∷ ns) b h l e = elim (cases_eq n i) [
    | inl same ↦
        ap (λ (o : Ordering). match_ordering o (get_member (name_at names i) (fields_data names s ns)) (Some (value_data (slice_get s n))) (get_member (name_at names i) (fields_data names s ns)))
        (ap (λ (m : ℕ). slice_cmp nat_cmp (name_at names i) (name_at names m)) same ∙ equal_itself (name_at names i)) ∙ ap (λ (m : ℕ). Some (value_data (slice_get s m))) same
    | inr other ↦
        passed (slice_cmp nat_cmp (name_at names i) (name_at names n)) (get_member (name_at names i) (fields_data names s ns)) (Some (value_data (slice_get s n)))
        (λ q. names_apart names differ i n b h.0 (λ p. other (sym p)) (equal_same (name_at names i) (name_at names n) q)) ∙ later k l e other (λ j m q. found i j ns b h.1 m q)
  ]
    where
      later : (k : ℕ) → k < length (n ∷ ns) → get_or (n ∷ ns) k i ≡ i → ¬ (n ≡ i) → ((j : ℕ) → j < length ns → get_or ns j i ≡ i → get_member (name_at names i) (fields_data names s ns) ≡ Some (value_data (slice_get s i)))
          → get_member (name_at names i) (fields_data names s ns) ≡ Some (value_data (slice_get s i))
      later zero l e other more = absurd (other e)
      later (suc k) l e other more = more k (omega (arith, l)) e

  module _ (prints_back : PrintsReadBack) (order : OrderAscends) where
    all_below : AllByRecursion (λ m. m < length names) (in_order names)
    all_below = in_order_below_length names order

    pub state_given : AreGiven s (in_order names)
    state_given = are_given (in_order names) all_below

    pub state_clean : HaveClean (state_data names s)
    state_clean = fields_clean (in_order names) all_below (in_order_rises names order differ)

    pub state_low : members_depth (state_data names s) ≤ 97
    state_low = fields_low (in_order names) all_below

    pub state_known : are_known names (state_data names s) ≡ true
    state_known = fields_known (in_order names) all_below

    read_at : (i : ℕ) (name : List ℕ) (v : Val) → slice_get names i ≡ Some name → slice_get s i ≡ Some v → ReadsAt (get_member name (state_data names s)) v
    read_at i name v p q =
        let b : i < length names = slice_get_within names i name p in
        let place = in_order_has names order i b in
        let there = found i place.0 (in_order names) b all_below place.1 place.2 in
        let called : name_at names i ≡ name = ap text_or_none p in
        let value : IsValue v = subst IsValue (get_or_from_slice_get s i v v q) (All-get_or IsValue s i v (slice_get_within s i v q) values) in
        let is : get_member name (state_data names s) ≡ Some (prints v) = ap (λ (k : List ℕ). get_member k (state_data names s)) (sym called) ∙ there ∙ ap (λ (o : Option Val). Some (value_data o)) q in
        subst (λ (o : Option Data). ReadsAt o v) (sym is) (prints_back v value).0

    pub state_reads : StateReads (state_data names s) names s
    state_reads = reads_each (state_data names s) names s whole read_at

    pub state_there : are_there names (state_data names s) ≡ true
    state_there = all_there (state_data names s) names s state_reads
