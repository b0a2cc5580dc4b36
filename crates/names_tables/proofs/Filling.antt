-- The table of definitions while they are placed in it.
use Rattle.std.proofs.Common.{◌≡◌, ◌≢◌, ◌∙◌, sym, ap, refl, subst, ℕ, zero, suc, List, [], ◌∷◌, ◌++◌, length, ◌<◌, ◌≤◌, ◌+◌, ◌⊎◌, inl, inr, arith, take, drop, get_or, set, map, length-append, length-set}
use Rattle.std.specs.Borrow.{Bor}
use Rattle.std.specs.Prelude.{◌↔◌, Bool, true, false, IsTrue, Option, option_map, Some, None, slice_get, Contains, AllPairs}
use Rattle.std.specs.List.{slice_index_or}
use Rattle.std.proofs.Math.Path.{fun_ext}
use Rattle.std.proofs.Math.Seq.{split_at}
use Rattle.std.proofs.lemmas.List.{get_or-set_other, get_or-set_same, length-map, take_more}
use Rattle.std.proofs.lemmas.List.Elements.{Contains-append_left, Contains-append_right, Contains-append_cases, Contains-get_or}
use Rattle.std.proofs.lemmas.Option.{slice_get-map, slice_get_cases, slice_get_read}
use Rattle.values_core.specs.Data.{Val}
use Rattle.reading_trees.specs.declared.config.Config.{Config}
use Rattle.reading_trees.specs.declared.expr.Definition.{Definition}
use Rattle.reading_trees.specs.declared.module.Program.{Program}
use Rattle.names_terms.specs.declared.operator.Operator.{Operator}
use Rattle.names_terms.specs.declared.operator.Own.{Own}
use Rattle.names_terms.specs.declared.operator.Own.TheVariants as owns
use Rattle.names_terms.specs.Levels.{of_operator}
use Rattle.names_terms.specs.Terms.{Term, level_of}
use Rattle.names_term_parts.specs.Slots.{IsInOrder, UsesSmaller}
use Rattle.names_term_parts.proofs.Ordering.{in_order_more, smaller_pushed}
use Rattle.names_least_levels.specs.Levels.{mark}
use Rattle.names_scopes.specs.declared.meant.Entry.{Entry}
use Rattle.names_scopes.specs.Scopes.{bind}
use Rattle.names_scopes.specs.Standing.{AreIn}
use Rattle.names_meanings.specs.Complaints.{complaint, with_names}
use Rattle.names_meanings.specs.Means.{Means, no_body}
use Rattle.names_meanings.specs.Outcomes.{Grows, Lasts, above, named_in, takes_of}
use Rattle.names_meanings.proofs.StandingOn.{stands_same}
use Rattle.names_program.specs.InUnits.{definitions_in}
use Rattle.names_program.specs.Names.{AreByDefinition, AreNames, Numbers, by_index, numbers_of, with_number}
use Rattle.names_program.specs.Recursion.{AreLevelsOf}
use Rattle.names_program.specs.Uses.{UsesItself}
use Rattle.names_uses.proofs.ProgramLevels.{levels_there}
use Rattle.names_meaning_laws.specs.Laws.{HasMore}
use Rattle.names_meaning_laws.proofs.More.{means_more}
use Rattle.base_use_order.specs.Uses.{Uses}
use Rattle.base_use_order.specs.Uses as order
use Rattle.base_use_order.proofs.Lists.{head_in, none_in, not_twice, cons_cases}
use Rattle.base_use_order.specs.Apart.{IsOrderApart}
use Rattle.names_tables.specs.declared.table.Table.{Table}
use Rattle.names_tables.specs.Filling.{Filled, HasBody, IsAdded, IsBegun, IsMeant, IsPlaced, IsPut, IsRow, IsWaiting, KeepsHeads, Waits}
use Rattle.names_tables.specs.NameFaults.{HasFineNames}
use Rattle.names_tables.specs.Owns.{own_by}
use Rattle.names_tables.specs.Tables.{AreLeveled, HasOwn, unit_operator}
use Rattle.names_tables.specs.UnitComplaints.{AreUses}
use Rattle.names_tables.proofs.Faults.{empty_body}
use Rattle.names_tables.proofs.KeptHeads.{keeps_fewer, keeps_front, keeps_stands}
use Rattle.names_tables.proofs.LevelsThere.{level_is}
use Rattle.names_tables.proofs.NamesKept.{has_more, with_cases}
use Rattle.names_tables.proofs.OwnMarks.{has_own, own_uses, true_false, unmarked}
use Rattle.names_tables.proofs.Places.{grows_by, grows_none, grows_on, last_stands, named_before, pushed_at, stays_at}
use Rattle.names_tables.proofs.ProgramTakes.{UsedAreNumbered, fine_there, takes_there}
use Rattle.names_tables.proofs.UnitPlaces.{fine_definition, itself_low}

-- Where the next definition stands in the order.

pub cut_order : (xs : List ℕ) (j : ℕ) → j < length xs → xs ≡ take j xs ++ get_or xs j 0 ∷ drop (suc j) xs
cut_order xs j lt = split_at xs j 0 lt

pub is_next : (marks : List Bool) (uses : order.Table) (xs : List ℕ) (j : ℕ) → IsOrderApart marks uses xs → j < length xs → ¬ Contains (take j xs) (get_or xs j 0)
is_next marks uses xs j is lt h =
    not_twice (take j xs) (drop (suc j) xs) (get_or xs j 0) (subst (λ (l : List ℕ). AllPairs (λ a b. a ≢ b) l) (cut_order xs j lt) is.once) h

pub used_stand : (marks : List Bool) (uses : order.Table) (xs : List ℕ) (j : ℕ) → IsOrderApart marks uses xs → j < length xs → slice_index_or marks (get_or xs j 0) false ≡ false → (b : ℕ) → Uses uses (get_or xs j 0) b → Contains (take j xs) b
used_stand marks uses xs j is lt apart b u = is.used_before (get_or xs j 0) b (take j xs) (drop (suc j) xs) (cut_order xs j lt) apart u

pub next_within : (marks : List Bool) (uses : order.Table) (xs : List ℕ) (j : ℕ) → IsOrderApart marks uses xs → j < length xs → get_or xs j 0 < length uses
next_within marks uses xs j is lt = (is.all (get_or xs j 0)).1 (Contains-get_or xs j 0 lt)

pub next_stands : (marks : List Bool) (uses : order.Table) (xs : List ℕ) (j : ℕ) → IsOrderApart marks uses xs → j < length xs → (items : List (Bor Definition)) (ds : List Definition) (x : Bor Definition) → length uses ≡ length ds → map (λ (d : Bor Definition). d.now) items ≡ ds → x ≡ get_or items (get_or xs j 0) x → slice_get ds (get_or xs j 0) ≡ Some x.now
next_stands marks uses xs j is lt items ds x many e at =
    let within : get_or xs j 0 < length uses = next_within marks uses xs j is lt in
    let same : length items ≡ length ds = sym (length-map items (λ (d : Bor Definition). d.now)) ∙ ap length e in
    let less : get_or xs j 0 < length items = omega (arith, within, many, same) in
    subst (λ (l : List Definition). slice_get l (get_or xs j 0) ≡ Some x.now) e (slice_get-map (λ (d : Bor Definition). d.now) items (get_or xs j 0) ∙ ap (option_map (λ (d : Bor Definition). d.now)) (slice_get_read items (length items) (get_or xs j 0) x refl less at))

-- At the beginning.

none_at : (k : ℕ) (o : Operator) → slice_get [] k ≡ Some o → ⊥
none_at k o e = absurd (cc)

none_smaller : UsesSmaller []
none_smaller k o e = absurd (none_at k o e)

no_number : (t : Table) (i k : ℕ) → numbers_of t.numbers.items i ≡ None → numbers_of t.numbers.items i ≡ Some k → ⊥
no_number t i k n e = absurd (cc)

pub begun_filled : (p : Program) (c : Config) (names : List Entry) (marks : List Bool) (xs : List ℕ) (t : Table) → IsBegun names (length (definitions_in p.units)) t → Filled p c names marks xs 0 0 t
begun_filled p c names marks xs t b = record {
  as_many = b.as_many;
  known = subst (λ (l : List Operator). AreIn (length l) t.names) (sym b.operators) b.known;
  smaller = subst (λ (l : List Operator). UsesSmaller l) (sym b.operators) none_smaller;
  are = b.are p c;
  done = λ i h. absurd (none_in i h);
  rest = λ i h. b.unnumbered i;
  within = λ i k n. absurd (no_number t i k (b.unnumbered i) n);
  once = λ h i k m n. absurd (no_number t i k (b.unnumbered i) n);
  rows = λ i d k e n w. absurd (no_number t i k (b.unnumbered i) n);
  waiting = λ i d k e n w. absurd (no_number t i k (b.unnumbered i) n);
  leveled = λ bs l i k n. absurd (no_number t i k (b.unnumbered i) n);
  named = λ k o e n. absurd (none_at k o (subst (λ (l : List Operator). slice_get l k ≡ Some o) b.operators e));
}

none_behind : (xs : List (Option ℕ)) → ((i : ℕ) → numbers_of xs i ≡ None) → (i : ℕ) → numbers_of (xs ++ None ∷ []) i ≡ None
none_behind [] h zero = refl
none_behind [] h (suc i) = refl
none_behind (x ∷ xs) h zero = h 0
none_behind (x ∷ xs) h (suc i) = none_behind xs (λ k. h (suc k)) i

pub none_pushed : (old new : List (Option ℕ)) → new ≡ old ++ None ∷ [] → ((i : ℕ) → numbers_of old i ≡ None) → (i : ℕ) → numbers_of new i ≡ None
none_pushed old new e h i = subst (λ (l : List (Option ℕ)). numbers_of l i ≡ None) (sym e) (none_behind old h i)

pub is_begun : (names : List Entry) (count : ℕ) (t : Table) (numbers : List (Option ℕ)) → numbers ≡ t.numbers.items → t.operators ≡ [] → length t.numbers.items ≡ count → ((i : ℕ) → numbers_of t.numbers.items i ≡ None) → ((p : Program) (c : Config) (values : List Val) → AreNames p c values by_index names → AreNames p c values (numbers_of numbers) t.names) → ((n : ℕ) → ((i k : ℕ) → numbers_of numbers i ≡ Some k → k < n) → AreIn n t.names) → IsBegun names count t
is_begun names count t numbers e empty many none are within = record {
  operators = empty;
  unnumbered = none;
  as_many = many;
  are = λ p c values a. subst (λ (l : List (Option ℕ)). AreNames p c values (numbers_of l) t.names) e (are p c values a);
  known = within 0 (λ i k n. absurd (no_number t i k (none i) (subst (λ (l : List (Option ℕ)). numbers_of l i ≡ Some k) e n)));
}

-- the same stands in a table that grew
pub still_at : (a b : List Operator) → Grows a b → (k : ℕ) → k < length a → slice_get b k ≡ slice_get a k
still_at a b g k lt = elim (slice_get_cases a k).1 [
  | inl w ↦ stays_at a b g k w.0 w.2 ∙ sym w.2
  | inr w ↦ absurd (omega (arith, lt, w.0))
]

pub leveled_grown : (bs : List Bool) (number : Numbers) (a b : List Operator) → Grows a b → ((i k : ℕ) → number i ≡ Some k → k < length a) → AreLeveled bs number a → AreLeveled bs number b
leveled_grown bs number a b g within l i k n = ap (λ (o : Option Operator). above (of_operator o)) (still_at a b g k (within i k n)) ∙ l i k n

-- an index that has a number
pub never_none : (xs : List (Option ℕ)) (i : ℕ) {n : ℕ} → (k : ℕ) × (numbers_of xs i ≡ Some k) × (k < n) → numbers_of xs i ≡ None → ⊥
never_none xs i r q = let bad : Some r.0 ≡ None = sym r.1 ∙ q in absurd (cc)

pub same_number : (xs : List (Option ℕ)) (i k : ℕ) {n : ℕ} → (j : ℕ) × (numbers_of xs i ≡ Some j) × (j < n) → numbers_of xs i ≡ Some k → k < n
same_number xs i k {n = n} r q =
    let both : Some r.0 ≡ Some k = sym r.1 ∙ q in
    let same : r.0 ≡ k = cc in
    subst (λ (x : ℕ). x < n) same r.2

pub grown_longer : (a b : List Operator) (k : ℕ) → Grows a b → k < length a → k < length b
grown_longer a b k g lt = let more : length b ≡ length a + length g.0 = ap length g.1 ∙ length-append a g.0 in omega (arith, lt, more)

no_body_yet : (marks : List Bool) (i : ℕ) → slice_index_or marks i false ≡ true → HasBody marks 0 i → ⊥
no_body_yet marks i q (inl w) = true_false (slice_index_or marks i false) q w
no_body_yet marks i q (inr lt) = absurd (omega (arith, lt))

-- One more definition, put last.

set_number : (xs : List (Option ℕ)) (index k i : ℕ) → index < length xs → numbers_of (set xs index (Some k)) i ≡ with_number (numbers_of xs) index k i
set_number xs index k i lt = elim (with_cases (numbers_of xs) index k i) [
  | inl w ↦ subst (λ (x : ℕ). get_or (set xs index (Some k)) x None ≡ Some k) w.0 (get_or-set_same xs index (Some k) None lt) ∙ sym w.1
  | inr w ↦ get_or-set_other xs index i (Some k) None (λ e. w.0 (sym e)) ∙ sym w.1
]

pub is_put : (by_definition : List (List Entry)) (index : ℕ) (d : Definition) (own : Own) (body : Term) (old new : Table) (o : Operator) (number : ℕ)
    → number ≡ length old.operators → o ≡ unit_operator d own body → new.operators ≡ old.operators ++ o ∷ []
    → new.numbers.items ≡ set old.numbers.items index (Some number) → index < length old.numbers.items → AreIn (length old.operators) old.names
    → ((p : Program) (c : Config) (values : List Val) (before : Numbers) → AreByDefinition p c values by_definition → before index ≡ None → AreNames p c values before old.names → AreNames p c values (with_number before index number) new.names)
    → ((before count : ℕ) → AreIn before old.names → before ≤ count → number < count → AreIn count new.names)
    → IsPut by_definition index d own body old new
is_put by_definition index d own body old new o number n is pushed numbers lt known are within =
    let whole : new.operators ≡ old.operators ++ unit_operator d own body ∷ [] = pushed ∙ ap (λ (x : Operator). old.operators ++ x ∷ []) is in
    let longer : length new.operators ≡ length old.operators + 1 = ap length whole ∙ length-append old.operators (unit_operator d own body ∷ []) in
    record {
      pushed = whole;
      as_many = ap length numbers ∙ length-set old.numbers.items index (Some number);
      numbers = λ i. ap (λ (l : List (Option ℕ)). numbers_of l i) numbers ∙ ap (λ (k : ℕ). numbers_of (set old.numbers.items index (Some k)) i) n ∙ set_number old.numbers.items index (length old.operators) i lt;
      are = λ p c values lists none a. subst (λ (k : ℕ). AreNames p c values (with_number (numbers_of old.numbers.items) index k) new.names) n (are p c values (numbers_of old.numbers.items) lists none a);
      known = within (length old.operators) (length new.operators) known (omega (arith, longer)) (omega (arith, longer, n));
    }

-- one that uses itself, whose body is to come
waits_in_order : (n k : ℕ) (own : Own) → own ≢ owns.Apart → IsInOrder n k own no_body
waits_in_order n k owns.Apart w = absurd (w refl)
waits_in_order n k owns.Itself w = (refl, empty_body n)
waits_in_order n k owns.Function w = (refl, empty_body n)

put_in_order : (table : List Operator) (o : Operator) → UsesSmaller table → IsInOrder (length (table ++ o ∷ [])) (length table) o.own o.body → UsesSmaller (table ++ o ∷ [])
put_in_order table o smaller last k p e = elim (pushed_at table o k p e) [
  | inl before ↦ in_order_more (length table) (length (table ++ o ∷ [])) k p.own p.body longer (smaller k p before)
  | inr w ↦ subst (λ (i : ℕ). IsInOrder (length (table ++ o ∷ [])) i p.own p.body) w.0 (subst (λ (q : Operator). IsInOrder (length (table ++ o ∷ [])) (length table) q.own q.body) w.1 last)
]
  where
    longer : length table ≤ length (table ++ o ∷ [])
    longer = omega (arith, length-append table (o ∷ []))

module _ (p : Program) (c : Config) (values : List Val) (names : List Entry) (a : AreNames p c values by_index names) (marks : List Bool) (uses : order.Table) (xs : List ℕ) (is : IsOrderApart marks uses xs) (j : ℕ) (lt : j < length xs) (d : Definition) (stands : slice_get (definitions_in p.units) (get_or xs j 0) ≡ Some d) (old : Table) (h : Filled p c names marks xs j 0 old) where
  levels : (bs : List Bool) × AreLevelsOf p c bs
  levels = levels_there p c values names a

  used_numbered : AreUses p c uses → slice_index_or marks (get_or xs j 0) false ≡ false → UsedAreNumbered p c (numbers_of old.numbers.items) (get_or xs j 0)
  used_numbered used apart i u = h.done i (used_stand marks uses xs j is lt apart i ((used.exact (get_or xs j 0) i).1 u))

  -- nothing is wrong with it under the names of those before it
  pub fine_next : HasFineNames p c → AreUses p c uses → slice_index_or marks (get_or xs j 0) false ≡ false → complaint (with_names (takes_of old.operators old.names) d.params) d.body ≡ None
  fine_next fine used apart =
      fine_there levels.0 p c values old.names (numbers_of old.numbers.items) old.operators (get_or xs j 0) d (h.are values a) (h.leveled levels.0 levels.1) stands (used_numbered used apart) (fine_definition p c levels.0 levels.1 fine (get_or xs j 0) d stands)

  none : numbers_of old.numbers.items (get_or xs j 0) ≡ None
  none = h.rest (get_or xs j 0) (is_next marks uses xs j is lt)

  module _ (by_definition : List (List Entry)) (lists : (ws : List Val) → AreNames p c ws by_index names → AreByDefinition p c ws by_definition) (own : Own) (body : Term) (middle : List Operator) (begun : Grows old.operators middle) (unnamed : named_in middle ≡ named_in old.operators) (new : Table) (put : IsPut by_definition (get_or xs j 0) d own body (record old { operators = middle }) new) where
    numbers_are : numbers_of new.numbers.items ≡ with_number (numbers_of old.numbers.items) (get_or xs j 0) (length middle)
    numbers_are = fun_ext (λ (i : ℕ). put.numbers i)

    more_names : (ws : List Val) → AreNames p c ws by_index names → AreNames p c ws (numbers_of new.numbers.items) new.names
    more_names ws b = subst (λ (n : Numbers). AreNames p c ws n new.names) (sym numbers_are) (put.are p c ws (lists ws b) none (h.are ws b))

    more : HasMore old.names new.names
    more = has_more p c values old.names new.names (numbers_of old.numbers.items) (get_or xs j 0) (length middle) none (h.are values a) (put.are p c values (lists values a) none (h.are values a))

    behind : Grows middle new.operators
    behind = grows_by middle new.operators (unit_operator d own body) put.pushed

    grown : Grows old.operators new.operators
    grown = grows_on old.operators middle new.operators begun behind

    longer : length new.operators ≡ length middle + 1
    longer = ap length put.pushed ∙ length-append middle (unit_operator d own body ∷ [])

    no_shorter : length old.operators ≤ length middle
    no_shorter = let more : length middle ≡ length old.operators + length begun.0 = ap length begun.1 ∙ length-append old.operators begun.0 in omega (arith, more)

    -- what holds where the new definitions stand on holds where the old ones do
    keeps_middle : (all : List Operator) → KeepsHeads (numbers_of new.numbers.items) new.operators all → KeepsHeads (numbers_of old.numbers.items) middle all
    keeps_middle all g =
        let le : length middle ≤ length middle = omega arith in
        keeps_fewer (numbers_of old.numbers.items) (get_or xs j 0) (length middle) middle all le (subst (λ (n : Numbers). KeepsHeads n middle all) numbers_are (keeps_front (numbers_of new.numbers.items) middle behind g))

    keeps_old : (all : List Operator) → KeepsHeads (numbers_of new.numbers.items) new.operators all → KeepsHeads (numbers_of old.numbers.items) old.operators all
    keeps_old all g = keeps_front (numbers_of old.numbers.items) old.operators begun (keeps_middle all g)

    old_row : (i : ℕ) (e : Definition) (k : ℕ) → IsRow p c old i e k → IsRow p c new i e k
    old_row i e k r = record {
      own = r.own;
      body = r.body;
      marked = r.marked;
      stands = stays_at old.operators new.operators grown k (unit_operator e r.own r.body) r.stands;
      means = λ all g. means_more old.names new.names more all (bind [] e.params) e.body r.body (r.means all (keeps_old all g));
    }

    old_place : (i : ℕ) (e : Definition) (k : ℕ) → IsWaiting p c old i e k → IsWaiting p c new i e k
    old_place i e k r = record {
      own = r.own;
      itself = r.itself;
      marked = r.marked;
      stands = stays_at old.operators new.operators grown k (unit_operator e r.own no_body) r.stands;
    }

    stands_last : slice_get new.operators (length middle) ≡ Some (unit_operator d own body)
    stands_last = subst (λ (l : List Operator). slice_get l (length middle) ≡ Some (unit_operator d own body)) (sym put.pushed) (last_stands middle (unit_operator d own body))

    pub new_row : HasOwn p c (get_or xs j 0) d own → Lasts (length old.operators) middle (λ all. Means old.names all (bind [] d.params) d.body body) → IsRow p c new (get_or xs j 0) d (length middle)
    new_row marked means = record {
      own = own;
      body = body;
      marked = marked;
      stands = stands_last;
      means = λ all g. means_more old.names new.names more all (bind [] d.params) d.body body (means all (keeps_stands (numbers_of old.numbers.items) (length old.operators) middle all h.within (keeps_middle all g)));
    }

    number_at : (i k : ℕ) → numbers_of new.numbers.items i ≡ Some k → ((get_or xs j 0 ≡ i) × (length middle ≡ k)) ⊎ (numbers_of old.numbers.items i ≡ Some k)
    number_at i k n = elim (with_cases (numbers_of old.numbers.items) (get_or xs j 0) (length middle) i) [
      | inl w ↦ let q : Some (length middle) ≡ Some k = sym w.1 ∙ sym (put.numbers i) ∙ n in inl (w.0, cc)
      | inr w ↦ inr (sym w.1 ∙ sym (put.numbers i) ∙ n)
    ]

    same_definition : (i : ℕ) (e : Definition) → get_or xs j 0 ≡ i → slice_get (definitions_in p.units) i ≡ Some e → d ≡ e
    same_definition i e w at =
        let here : slice_get (definitions_in p.units) i ≡ Some d = subst (λ (x : ℕ). slice_get (definitions_in p.units) x ≡ Some d) w stands in
        let both : Some d ≡ Some e = sym here ∙ at in
        cc

    number_stays : (i k : ℕ) → numbers_of old.numbers.items i ≡ Some k → numbers_of new.numbers.items i ≡ Some k
    number_stays i k n = elim (with_cases (numbers_of old.numbers.items) (get_or xs j 0) (length middle) i) [
      | inl w ↦ absurd (no_number old i k (subst (λ (x : ℕ). numbers_of old.numbers.items x ≡ None) w.0 none) n)
      | inr w ↦ put.numbers i ∙ w.1 ∙ n
    ]

    number_here : numbers_of new.numbers.items (get_or xs j 0) ≡ Some (length middle)
    number_here = elim (with_cases (numbers_of old.numbers.items) (get_or xs j 0) (length middle) (get_or xs j 0)) [
      | inl w ↦ put.numbers (get_or xs j 0) ∙ w.1
      | inr w ↦ absurd (w.0 refl)
    ]

    named_at : (k : ℕ) (o : Operator) → slice_get new.operators k ≡ Some o → o.name ≢ [] → (i : ℕ) × (e : Definition) × (slice_get (definitions_in p.units) i ≡ Some e) × (numbers_of new.numbers.items i ≡ Some k)
    named_at k o e n = elim (pushed_at middle (unit_operator d own body) k o (subst (λ (l : List Operator). slice_get l k ≡ Some o) put.pushed e)) [
      | inl m ↦
          let whole : slice_get (old.operators ++ begun.0) k ≡ Some o = subst (λ (l : List Operator). slice_get l k ≡ Some o) begun.1 m in
          let none_more = subst (λ (l : List Operator). named_in l ≡ named_in old.operators) begun.1 unnamed in
          let before = h.named k o (named_before old.operators begun.0 none_more k o whole n) n in
          (before.0, before.1, before.2, number_stays before.0 k before.3)
      | inr w ↦ (get_or xs j 0, d, stands, number_here ∙ ap (λ (x : ℕ). Some x) w.0)
    ]

    taken : take (j + 1) xs ≡ take j xs ++ get_or xs j 0 ∷ []
    taken = take_more xs j 0 lt

    done_on : (i : ℕ) → Contains (take (j + 1) xs) i → (k : ℕ) × (numbers_of new.numbers.items i ≡ Some k)
    done_on i m = elim (Contains-append_cases (take j xs) (get_or xs j 0 ∷ []) i (subst (λ (l : List ℕ). Contains l i) taken m)) [
      | inl b ↦ let n = h.done i b in (n.0, number_stays i n.0 n.1)
      | inr b ↦ elim (cons_cases (get_or xs j 0) [] i b) [
        | inl e ↦ (length middle, subst (λ (x : ℕ). numbers_of new.numbers.items x ≡ Some (length middle)) e number_here)
        | inr g ↦ absurd (none_in i g)
      ]
    ]

    rest_on : (i : ℕ) → ¬ Contains (take (j + 1) xs) i → numbers_of new.numbers.items i ≡ None
    rest_on i m = elim (with_cases (numbers_of old.numbers.items) (get_or xs j 0) (length middle) i) [
      | inl w ↦ absurd (m (subst (λ (l : List ℕ). Contains l i) (sym taken) (Contains-append_right (take j xs) (get_or xs j 0 ∷ []) i (subst (λ (x : ℕ). Contains (get_or xs j 0 ∷ []) x) w.0 (head_in (get_or xs j 0) [])))))
      | inr w ↦ put.numbers i ∙ w.1 ∙ h.rest i (λ b. m (subst (λ (l : List ℕ). Contains l i) (sym taken) (Contains-append_left (take j xs) (get_or xs j 0 ∷ []) i b)))
    ]

    within_on : (i k : ℕ) → numbers_of new.numbers.items i ≡ Some k → k < length new.operators
    within_on i k n = elim (number_at i k n) [
      | inl w ↦ omega (arith, w.1, longer)
      | inr o ↦ omega (arith, h.within i k o, longer, no_shorter)
    ]

    once_on : (g i k : ℕ) → numbers_of new.numbers.items g ≡ Some k → numbers_of new.numbers.items i ≡ Some k → g ≡ i
    once_on g i k m n = elim (number_at g k m) [
      | inl w ↦ elim (number_at i k n) [
        | inl v ↦ sym w.0 ∙ v.0
        | inr o ↦ absurd (omega (arith, w.1, h.within i k o, no_shorter))
      ]
      | inr q ↦ elim (number_at i k n) [
        | inl v ↦ absurd (omega (arith, v.1, h.within g k q, no_shorter))
        | inr o ↦ h.once g i k q o
      ]
    ]

    leveled_on : ((bs : List Bool) → AreLevelsOf p c bs → above (level_of body) ≡ mark bs (get_or xs j 0)) → (bs : List Bool) → AreLevelsOf p c bs → AreLeveled bs (numbers_of new.numbers.items) new.operators
    leveled_on level bs l i k n = elim (number_at i k n) [
      | inl w ↦
          ap (λ (x : ℕ). above (of_operator (slice_get new.operators x))) (sym w.1) ∙ ap (λ (o : Option Operator). above (of_operator o)) stands_last ∙ level bs l ∙ ap (mark bs) w.0
      | inr q ↦ ap (λ (o : Option Operator). above (of_operator o)) (still_at old.operators new.operators grown k (h.within i k q)) ∙ h.leveled bs l i k q
    ]

    -- placed, with a body or waiting for it
    pub filled_on : UsesSmaller new.operators → ((bs : List Bool) → AreLevelsOf p c bs → above (level_of body) ≡ mark bs (get_or xs j 0)) → (HasBody marks 0 (get_or xs j 0) → IsRow p c new (get_or xs j 0) d (length middle)) → (Waits marks 0 (get_or xs j 0) → IsWaiting p c new (get_or xs j 0) d (length middle)) → Filled p c names marks xs (j + 1) 0 new
    filled_on smaller level ready waiting = record {
      as_many = put.as_many ∙ h.as_many;
      known = put.known;
      smaller = smaller;
      are = more_names;
      done = done_on;
      rest = rest_on;
      within = within_on;
      once = once_on;
      rows = row_at;
      waiting = waiting_at;
      leveled = leveled_on level;
      named = named_at;
    }
      where
        row_at : (i : ℕ) (e : Definition) (k : ℕ) → slice_get (definitions_in p.units) i ≡ Some e → numbers_of new.numbers.items i ≡ Some k → HasBody marks 0 i → IsRow p c new i e k
        row_at i e k at n has = elim (number_at i k n) [
          | inl w ↦
              let one : HasBody marks 0 (get_or xs j 0) = subst (λ (x : ℕ). HasBody marks 0 x) (sym w.0) has in
              subst (λ (x : ℕ). IsRow p c new i e x) w.1 (subst (λ (x : ℕ). IsRow p c new x e (length middle)) w.0 (subst (λ (y : Definition). IsRow p c new (get_or xs j 0) y (length middle)) (same_definition i e w.0 at) (ready one)))
          | inr o ↦ old_row i e k (h.rows i e k at o has)
        ]

        waiting_at : (i : ℕ) (e : Definition) (k : ℕ) → slice_get (definitions_in p.units) i ≡ Some e → numbers_of new.numbers.items i ≡ Some k → Waits marks 0 i → IsWaiting p c new i e k
        waiting_at i e k at n has = elim (number_at i k n) [
          | inl w ↦
              let one : Waits marks 0 (get_or xs j 0) = subst (λ (x : ℕ). Waits marks 0 x) (sym w.0) has in
              subst (λ (x : ℕ). IsWaiting p c new i e x) w.1 (subst (λ (x : ℕ). IsWaiting p c new x e (length middle)) w.0 (subst (λ (y : Definition). IsWaiting p c new (get_or xs j 0) y (length middle)) (same_definition i e w.0 at) (waiting one)))
          | inr o ↦ old_place i e k (h.waiting i e k at o has)
        ]

  -- one that does not use itself, and one that does
  module _ (fine : HasFineNames p c) (used : AreUses p c uses) (recursive : (i : ℕ) → IsTrue (slice_index_or marks i false) ↔ UsesItself p c i) (by_definition : List (List Entry)) (lists : (ws : List Val) → AreNames p c ws by_index names → AreByDefinition p c ws by_definition) (new : Table) where
    level_apart : slice_index_or marks (get_or xs j 0) false ≡ false → (body : Term) (middle : List Operator) → IsMeant d body middle old → (bs : List Bool) → AreLevelsOf p c bs → above (level_of body) ≡ mark bs (get_or xs j 0)
    level_apart apart body middle m bs l =
        let leveled : AreLeveled bs (numbers_of old.numbers.items) middle = leveled_grown bs (numbers_of old.numbers.items) old.operators middle m.grown h.within (h.leveled bs l) in
        let numbered : UsedAreNumbered p c (numbers_of old.numbers.items) (get_or xs j 0) = used_numbered used apart in
        level_is p c bs l (get_or xs j 0) d stands old.names middle (takes_there bs p c values old.names (numbers_of old.numbers.items) middle (get_or xs j 0) d (h.are values a) leveled stands numbered)
        (fine_there bs p c values old.names (numbers_of old.numbers.items) middle (get_or xs j 0) d (h.are values a) leveled stands numbered (fine_definition p c bs l fine (get_or xs j 0) d stands))
        body (m.means middle (stands_same (length old.operators) middle))

    added : slice_index_or marks (get_or xs j 0) false ≡ false → HasOwn p c (get_or xs j 0) d owns.Apart → IsAdded by_definition (get_or xs j 0) d old new → Filled p c names marks xs (j + 1) 0 new
    added apart own add =
        let m : IsMeant d add.body add.middle old = add.meant in
        filled_on by_definition lists owns.Apart add.body add.middle m.grown m.unnamed new add.put (subst (λ (l : List Operator). UsesSmaller l) (sym add.put.pushed) (smaller_pushed add.middle (unit_operator d owns.Apart add.body) m.smaller refl m.below))
        (level_apart apart add.body add.middle m)
        (λ w. new_row by_definition lists owns.Apart add.body add.middle m.grown m.unnamed new add.put own m.means)
        (λ w. absurd (true_false (slice_index_or marks (get_or xs j 0) false) w.0 apart))

    reserved : (own : Own) → own ≢ owns.Apart → HasOwn p c (get_or xs j 0) d own → IsPut by_definition (get_or xs j 0) d own no_body old new → Filled p c names marks xs (j + 1) 0 new
    reserved own other has put =
        let itself : UsesItself p c (get_or xs j 0) = own_uses p c (get_or xs j 0) d own stands other has in
        let marked : slice_index_or marks (get_or xs j 0) false ≡ true = (recursive (get_or xs j 0)).1 itself in
        filled_on by_definition lists own no_body old.operators (grows_none old.operators) refl new put (subst (λ (l : List Operator). UsesSmaller l) (sym put.pushed) (put_in_order old.operators (unit_operator d own no_body) h.smaller (waits_in_order (length (old.operators ++ unit_operator d own no_body ∷ [])) (length old.operators) own other)))
        (λ bs l. sym (itself_low p c bs l fine (get_or xs j 0) itself))
        (λ w. absurd (no_body_yet marks (get_or xs j 0) marked w))
        (λ w. record { own = own; itself = other; marked = has; stands = subst (λ (l : List Operator). slice_get l (length old.operators) ≡ Some (unit_operator d own no_body)) (sym put.pushed) (last_stands old.operators (unit_operator d own no_body)) })

    placed_so : (own : Own) → own_by names (slice_index_or marks (get_or xs j 0) false) (get_or xs j 0) d ≡ own → HasOwn p c (get_or xs j 0) d own → IsPlaced by_definition own (get_or xs j 0) d old new → Filled p c names marks xs (j + 1) 0 new
    placed_so owns.Apart q has w = added (unmarked names (slice_index_or marks (get_or xs j 0) false) (get_or xs j 0) d q) has w
    placed_so owns.Itself q has w = reserved owns.Itself (λ e. (cc)) has w
    placed_so owns.Function q has w = reserved owns.Function (λ e. (cc)) has w

    pub filled_placed : (own : Own) → own ≡ own_by names (slice_index_or marks (get_or xs j 0) false) (get_or xs j 0) d → IsPlaced by_definition own (get_or xs j 0) d old new → Filled p c names marks xs (j + 1) 0 new
    filled_placed own q w =
        placed_so own (sym q) (subst (λ (o : Own). HasOwn p c (get_or xs j 0) d o) (sym q) (has_own p c values names a (get_or xs j 0) d (slice_index_or marks (get_or xs j 0) false) (recursive (get_or xs j 0)))) w
