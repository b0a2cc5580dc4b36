-- The table of definitions while those that use themselves get their bodies, and at the end.
use Rattle.std.proofs.Common.{◌≡◌, ◌≢◌, ◌∙◌, sym, ap, refl, subst, ℕ, zero, suc, List, [], ◌∷◌, ◌++◌, length, ◌<◌, ◌≤◌, ◌+◌, ◌⊎◌, inl, inr, arith, set, length-append, length-set, IfOk, Ok, Err, Result}
use Rattle.std.specs.Prelude.{◌↔◌, Bool, true, false, IsTrue, Option, Some, None, slice_get, Contains}
use Rattle.std.specs.List.{slice_index_or}
use Rattle.std.proofs.lemmas.List.{take_all}
use Rattle.std.proofs.lemmas.Option.{slice_get_cases, slice_get_within}
use Rattle.values_core.specs.Data.{Val}
use Rattle.reading_trees.specs.declared.config.Config.{Config}
use Rattle.reading_trees.specs.declared.expr.Definition.{Definition}
use Rattle.reading_trees.specs.declared.module.Program.{Program}
use Rattle.names_terms.specs.declared.level.Level.{Level}
use Rattle.names_terms.specs.declared.level.Level.TheVariants as levels
use Rattle.names_terms.specs.declared.operator.Operator.{Operator}
use Rattle.names_terms.specs.declared.operator.Own.{Own}
use Rattle.names_terms.specs.declared.operator.Own.TheVariants as owns
use Rattle.names_terms.specs.Levels.{of_operator}
use Rattle.names_terms.specs.Terms.{Term, level_of}
use Rattle.names_term_parts.specs.Slots.{IsInOrder, MentionsBelow, UsesSmaller}
use Rattle.names_least_levels.specs.Levels.{mark}
use Rattle.names_scopes.specs.declared.meant.Entry.{Entry}
use Rattle.names_scopes.specs.Standing.{AreIn}
use Rattle.names_meanings.specs.Complaints.{complaint, with_names}
use Rattle.names_meanings.specs.Means.{no_body}
use Rattle.names_meanings.specs.Outcomes.{above, named_in, takes_of}
use Rattle.names_meanings.proofs.Risen.{not_above}
use Rattle.names_meanings.proofs.StandingOn.{set_elsewhere, set_there, stands_same}
use Rattle.names_program.specs.InUnits.{definitions_in}
use Rattle.names_program.specs.Names.{AreNames, by_index, numbers_of}
use Rattle.names_program.specs.Recursion.{AreLevelsOf}
use Rattle.names_program.specs.Uses.{UsesItself}
use Rattle.names_uses.proofs.ProgramLevels.{levels_there}
use Rattle.base_use_order.specs.Uses as order
use Rattle.base_use_order.specs.Apart.{IsOrderApart}
use Rattle.names_tables.specs.declared.table.Table.{Table}
use Rattle.names_tables.specs.Filling.{Filled, HasBody, IsMeant, IsRow, IsSettled, IsSettledIf, IsWaiting, KeepsHeads, Waits}
use Rattle.names_tables.specs.NameFaults.{HasFineNames}
use Rattle.names_tables.specs.Tables.{AreLeveled, IsTable, IsTabled, StaysTable, unit_operator}
use Rattle.names_tables.specs.UnitComplaints.{AreUses}
use Rattle.names_tables.proofs.Faults.{below_or_at, still_in}
use Rattle.names_tables.proofs.Filling.{leveled_grown}
use Rattle.names_tables.proofs.KeptHeads.{equal_or, grown_keeps, keeps_front, keeps_set, keeps_stands}
use Rattle.names_tables.proofs.LevelsThere.{level_is}
use Rattle.names_tables.proofs.Places.{grows_none, named_before, stays_at}
use Rattle.names_tables.proofs.ProgramTakes.{UsedAreNumbered, fine_there, takes_there}
use Rattle.names_tables.proofs.UnitPlaces.{fine_definition, itself_low}

-- A table in which a row was set.

row_of_set : (xs : List Operator) (k j : ℕ) (r q : Operator) → slice_get (set xs k r) j ≡ Some q → ((j ≡ k) × (r ≡ q)) ⊎ (slice_get xs j ≡ Some q)
row_of_set [] k j r q e = inr e
row_of_set (x ∷ xs) zero zero r q e = let same : r ≡ q = cc in inl (refl, same)
row_of_set (x ∷ xs) zero (suc j) r q e = inr e
row_of_set (x ∷ xs) (suc k) zero r q e = inr e
row_of_set (x ∷ xs) (suc k) (suc j) r q e = elim (row_of_set xs k j r q e) [ inl h ↦ inl (ap suc h.0, h.1) | inr f ↦ inr f ]

set_in_order : (table : List Operator) (k : ℕ) (r : Operator) → UsesSmaller table → IsInOrder (length table) k r.own r.body → UsesSmaller (set table k r)
set_in_order table k r smaller there j q e = elim (row_of_set table k j r q e) [
  | inl here ↦ subst (λ (n : ℕ). IsInOrder n j q.own q.body) (sym (length-set table k r)) (subst (λ (i : ℕ). IsInOrder (length table) i q.own q.body) (sym here.0) (subst (λ (x : Operator). IsInOrder (length table) k x.own x.body) here.1 there))
  | inr before ↦ subst (λ (n : ℕ). IsInOrder n j q.own q.body) (sym (length-set table k r)) (smaller j q before)
]

constant_in_order : (n k : ℕ) (own : Own) (e : Term) → own ≢ owns.Apart → level_of e ≡ levels.Constant → MentionsBelow n e → IsInOrder n k own e
constant_in_order n k owns.Apart e w c b = absurd (w refl)
constant_in_order n k owns.Itself e w c b = (c, b)
constant_in_order n k owns.Function e w c b = (c, b)

one_number : (j k : ℕ) → Some j ≡ Some k → j ≡ k
one_number j k q = cc

one_definition : (d e : Definition) → Some d ≡ Some e → d ≡ e
one_definition d e q = cc

abbrev with_level : Definition → Own → Term → Level → Operator
with_level d own body l = record { name = d.name; outer = 0; params = length d.params; level = l; own = own; body = body }

before_one : (marks : List Bool) (i j : ℕ) → i ≢ j → HasBody marks (j + 1) i → HasBody marks j i
before_one marks i j n (inl w) = inl w
before_one marks i j n (inr lt) = elim (below_or_at i j lt) [ inl less ↦ inr less | inr same ↦ absurd (n same) ]

module _ (p : Program) (c : Config) (values : List Val) (names : List Entry) (a : AreNames p c values by_index names) (marks : List Bool) (uses : order.Table) (xs : List ℕ) (is : IsOrderApart marks uses xs) (n : ℕ) (over : length xs ≤ n) (fine : HasFineNames p c) (used : AreUses p c uses) (recursive : (i : ℕ) → IsTrue (slice_index_or marks i false) ↔ UsesItself p c i) (j : ℕ) (d : Definition) (stands : slice_get (definitions_in p.units) j ≡ Some d) (t : Table) (h : Filled p c names marks xs n j t) where
  all_levels : (bs : List Bool) × AreLevelsOf p c bs
  all_levels = levels_there p c values names a

  number_in_order : (i : ℕ) → i < length uses → (k : ℕ) × (numbers_of t.numbers.items i ≡ Some k)
  number_in_order i lt = h.done i (subst (λ (l : List ℕ). Contains l i) (sym (take_all n xs over)) ((is.all i).0 lt))

  all_numbered : UsedAreNumbered p c (numbers_of t.numbers.items) j
  all_numbered i u = number_in_order i (used.within j i ((used.exact j i).1 u))

  -- nothing is wrong with its body
  pub fine_body : complaint (with_names (takes_of t.operators t.names) d.params) d.body ≡ None
  fine_body =
      fine_there all_levels.0 p c values t.names (numbers_of t.numbers.items) t.operators j d (h.are values a) (h.leveled all_levels.0 all_levels.1) stands all_numbered (fine_definition p c all_levels.0 all_levels.1 fine j d stands)

  pub number_there : (k : ℕ) × (numbers_of t.numbers.items j ≡ Some k) × (k < length t.operators)
  number_there =
      let lt : j < length (definitions_in p.units) = slice_get_within (definitions_in p.units) j d stands in
      let r : (k : ℕ) × (numbers_of t.numbers.items j ≡ Some k) = number_in_order j (omega (arith, lt, used.as_many)) in
      (r.0, r.1, h.within j r.0 r.1)

  module _ (marked : slice_index_or marks j false ≡ true) (new : Table) (s : IsSettled j d t new) where
    abbrev k : ℕ
    k = s.row

    abbrev body : Term
    body = s.settled.body

    abbrev middle : List Operator
    middle = s.settled.middle

    m : IsMeant d body middle t
    m = s.settled.meant

    w : IsWaiting p c t j d k
    w = let le : j ≤ j = omega arith in h.waiting j d k stands s.numbered (marked, le)

    abbrev empty : Operator
    empty = unit_operator d w.own no_body

    abbrev full : Operator
    full = unit_operator d w.own body

    itself : UsesItself p c j
    itself = (recursive j).0 marked

    level : (bs : List Bool) → AreLevelsOf p c bs → above (level_of body) ≡ mark bs j
    level bs l =
        let leveled : AreLeveled bs (numbers_of t.numbers.items) middle = leveled_grown bs (numbers_of t.numbers.items) t.operators middle m.grown h.within (h.leveled bs l) in
        level_is p c bs l j d stands t.names middle (takes_there bs p c values t.names (numbers_of t.numbers.items) middle j d (h.are values a) leveled stands all_numbered)
        (fine_there bs p c values t.names (numbers_of t.numbers.items) middle j d (h.are values a) leveled stands all_numbered (fine_definition p c bs l fine j d stands))
        body (m.means middle (stands_same (length t.operators) middle))

    constant : level_of body ≡ levels.Constant
    constant = not_above (level_of body) (level all_levels.0 all_levels.1 ∙ itself_low p c all_levels.0 all_levels.1 fine j itself)

    before : slice_get middle k ≡ Some empty
    before = stays_at t.operators middle m.grown k empty w.stands

    same_row : record empty { body = body } ≡ full
    same_row = ap (with_level d w.own body) (sym constant)

    operators : new.operators ≡ set middle k full
    operators = s.settled.changed empty before ∙ ap (λ (o : Operator). set middle k o) same_row

    abbrev after : Table
    after = record t { operators = set middle k full }

    is_after : new ≡ after
    is_after = λ i. record { operators = operators i; numbers = s.settled.numbers i; names = s.settled.names i }

    less : k < length t.operators
    less = h.within j k s.numbered

    no_shorter : length t.operators ≤ length middle
    no_shorter = let more : length middle ≡ length t.operators + length m.grown.0 = ap length m.grown.1 ∙ length-append t.operators m.grown.0 in omega (arith, more)

    keeps_middle : (all : List Operator) → KeepsHeads (numbers_of t.numbers.items) (set middle k full) all → KeepsHeads (numbers_of t.numbers.items) middle all
    keeps_middle all g = keeps_set (numbers_of t.numbers.items) middle j k empty body s.numbered before (subst (λ (o : Operator). KeepsHeads (numbers_of t.numbers.items) (set middle k o) all) (sym same_row) g)

    keeps_old : (all : List Operator) → KeepsHeads (numbers_of t.numbers.items) (set middle k full) all → KeepsHeads (numbers_of t.numbers.items) t.operators all
    keeps_old all g = keeps_front (numbers_of t.numbers.items) t.operators m.grown (keeps_middle all g)

    row_here : IsRow p c after j d k
    row_here = record {
      own = w.own;
      body = body;
      marked = w.marked;
      stands = set_there middle k full empty before;
      means = λ all g. m.means all (keeps_stands (numbers_of t.numbers.items) (length t.operators) middle all h.within (keeps_middle all g));
    }

    old_row : (i : ℕ) (e : Definition) (q : ℕ) → q ≢ k → IsRow p c t i e q → IsRow p c after i e q
    old_row i e q ne r = record {
      own = r.own;
      body = r.body;
      marked = r.marked;
      stands = set_elsewhere middle k q full (unit_operator e r.own r.body) ne (stays_at t.operators middle m.grown q (unit_operator e r.own r.body) r.stands);
      means = λ all g. r.means all (keeps_old all g);
    }

    old_place : (i : ℕ) (e : Definition) (q : ℕ) → q ≢ k → IsWaiting p c t i e q → IsWaiting p c after i e q
    old_place i e q ne r = record {
      own = r.own;
      itself = r.itself;
      marked = r.marked;
      stands = set_elsewhere middle k q full (unit_operator e r.own no_body) ne (stays_at t.operators middle m.grown q (unit_operator e r.own no_body) r.stands);
    }

    other_number : (i q : ℕ) → i ≢ j → numbers_of t.numbers.items i ≡ Some q → q ≢ k
    other_number i q ne at e = ne (h.once i j k (at ∙ ap (λ (x : ℕ). Some x) e) s.numbered)

    row_at : (i : ℕ) (e : Definition) (q : ℕ) → slice_get (definitions_in p.units) i ≡ Some e → numbers_of t.numbers.items i ≡ Some q → HasBody marks (j + 1) i → IsRow p c after i e q
    row_at i e q at number has = elim (equal_or i j) [
      | inl z ↦
          let one : k ≡ q = one_number k q (sym s.numbered ∙ ap (numbers_of t.numbers.items) (sym z) ∙ number) in
          let same : d ≡ e = one_definition d e (sym stands ∙ ap (λ (x : ℕ). slice_get (definitions_in p.units) x) (sym z) ∙ at) in
          subst (λ (x : ℕ). IsRow p c after i e x) one (subst (λ (x : ℕ). IsRow p c after x e k) (sym z) (subst (λ (y : Definition). IsRow p c after j y k) same row_here))
      | inr ne ↦ old_row i e q (other_number i q ne number) (h.rows i e q at number (before_one marks i j ne has))
    ]

    waiting_at : (i : ℕ) (e : Definition) (q : ℕ) → slice_get (definitions_in p.units) i ≡ Some e → numbers_of t.numbers.items i ≡ Some q → Waits marks (j + 1) i → IsWaiting p c after i e q
    waiting_at i e q at number has =
        let le : j ≤ i = omega (arith, has.1) in
        old_place i e q (other_number i q (λ z. absurd (omega (arith, z, has.1))) number) (h.waiting i e q at number (has.0, le))

    elsewhere : (q : ℕ) → q ≢ k → q < length t.operators → slice_get (set middle k full) q ≡ slice_get t.operators q
    elsewhere q ne lt = elim (slice_get_cases t.operators q).1 [
      | inl v ↦ set_elsewhere middle k q full v.0 ne (stays_at t.operators middle m.grown q v.0 v.2) ∙ sym v.2
      | inr v ↦ absurd (omega (arith, lt, v.0))
    ]

    leveled_at : (bs : List Bool) → AreLevelsOf p c bs → AreLeveled bs (numbers_of t.numbers.items) (set middle k full)
    leveled_at bs l i q number = elim (equal_or q k) [
      | inl z ↦
          let same : i ≡ j = h.once i j k (number ∙ ap (λ (x : ℕ). Some x) z) s.numbered in
          ap (λ (x : ℕ). above (of_operator (slice_get (set middle k full) x))) z ∙ ap (λ (o : Option Operator). above (of_operator o)) (set_there middle k full empty before) ∙ level bs l ∙ ap (mark bs) (sym same)
      | inr ne ↦ ap (λ (o : Option Operator). above (of_operator o)) (elsewhere q ne (h.within i q number)) ∙ h.leveled bs l i q number
    ]

    named_at : (q : ℕ) (o : Operator) → slice_get (set middle k full) q ≡ Some o → o.name ≢ [] → (i : ℕ) × (e : Definition) × (slice_get (definitions_in p.units) i ≡ Some e) × (numbers_of t.numbers.items i ≡ Some q)
    named_at q o e named = elim (row_of_set middle k q full o e) [
      | inl z ↦ (j, d, stands, s.numbered ∙ ap (λ (x : ℕ). Some x) (sym z.0))
      | inr there ↦
          let whole : slice_get (t.operators ++ m.grown.0) q ≡ Some o = subst (λ (l : List Operator). slice_get l q ≡ Some o) m.grown.1 there in
          let none_more = subst (λ (l : List Operator). named_in l ≡ named_in t.operators) m.grown.1 m.unnamed in
          h.named q o (named_before t.operators m.grown.0 none_more q o whole named) named
    ]

    filled_after : Filled p c names marks xs n (j + 1) after
    filled_after = record {
      as_many = h.as_many;
      known = subst (λ (x : ℕ). AreIn x t.names) (sym (length-set middle k full)) (still_in t.operators middle t.names m.grown h.known);
      smaller = set_in_order middle k full m.smaller (constant_in_order (length middle) k w.own body w.itself constant m.below);
      are = h.are;
      done = h.done;
      rest = h.rest;
      within = λ i q number. let lt : q < length t.operators = h.within i q number in omega (arith, lt, no_shorter, length-set middle k full);
      once = h.once;
      rows = row_at;
      waiting = waiting_at;
      leveled = leveled_at;
      named = named_at;
    }

    settled_on : Filled p c names marks xs n (j + 1) new
    settled_on = subst (λ (x : Table). Filled p c names marks xs n (j + 1) x) (sym is_after) filled_after

  passed_on : slice_index_or marks j false ≡ false → Filled p c names marks xs n (j + 1) t
  passed_on apart = record {
    as_many = h.as_many;
    known = h.known;
    smaller = h.smaller;
    are = h.are;
    done = h.done;
    rest = h.rest;
    within = h.within;
    once = h.once;
    rows = λ i e q at number has. h.rows i e q at number (ready i has);
    waiting = λ i e q at number has. (let le : j ≤ i = omega (arith, has.1) in h.waiting i e q at number (has.0, le));
    leveled = h.leveled;
    named = h.named;
  }
    where
      ready : (i : ℕ) → HasBody marks (j + 1) i → HasBody marks j i
      ready i has = elim (equal_or i j) [
        | inl z ↦ inl (ap (λ (x : ℕ). slice_index_or marks x false) z ∙ apart)
        | inr ne ↦ before_one marks i j ne has
      ]

  settled_by : (b : Bool) (new : Table) → b ≡ slice_index_or marks j false → IsSettledIf b j d t new → Filled p c names marks xs n (j + 1) new
  settled_by true new q s = settled_on (sym q) new s
  settled_by false new q s = subst (λ (x : Table). Filled p c names marks xs n (j + 1) x) (sym s) (passed_on (sym q))

  -- one more definition has its body, if it waited for it
  pub filled_settled : (b : Bool) (new : Table) → b ≡ slice_index_or marks j false → IsSettledIf b j d t new → Filled p c names marks xs n (j + 1) new
  filled_settled b new q s = settled_by b new q s

-- At the end.

module _ (p : Program) (c : Config) (names : List Entry) (marks : List Bool) (uses : order.Table) (xs : List ℕ) (n from : ℕ) (t : Table) (many : length uses ≡ length (definitions_in p.units)) (is : IsOrderApart marks uses xs) (over : length xs ≤ n) (ended : length (definitions_in p.units) ≤ from) (h : Filled p c names marks xs n from t) where
  has_number : (i : ℕ) (d : Definition) → slice_get (definitions_in p.units) i ≡ Some d → (k : ℕ) × (numbers_of t.numbers.items i ≡ Some k)
  has_number i d at =
      let within : i < length (definitions_in p.units) = slice_get_within (definitions_in p.units) i d at in
      let less : i < length uses = omega (arith, within, many) in
      h.done i (subst (λ (l : List ℕ). Contains l i) (sym (take_all n xs over)) ((is.all i).0 less))

  row_of : (i : ℕ) (d : Definition) (k : ℕ) → slice_get (definitions_in p.units) i ≡ Some d → numbers_of t.numbers.items i ≡ Some k → IsRow p c t i d k
  row_of i d k at number =
      let within : i < length (definitions_in p.units) = slice_get_within (definitions_in p.units) i d at in
      let less : i < from = omega (arith, within, ended) in
      h.rows i d k at number (inr less)

  filled_stays : (values : List Val) → AreNames p c values by_index names → StaysTable p c values (numbers_of t.numbers.items) t.operators
  filled_stays values a all g u s = record { definitions = tabled_there; named = named_there; smaller = s; leveled = λ bs l. leveled_grown bs (numbers_of t.numbers.items) t.operators all g h.within (h.leveled bs l) }
    where
      tabled_there : (i : ℕ) (d : Definition) → slice_get (definitions_in p.units) i ≡ Some d → IsTabled p c values (numbers_of t.numbers.items) all i d
      tabled_there i d at =
          let r = has_number i d at in
          let row : IsRow p c t i d r.0 = row_of i d r.0 at r.1 in
          record {
            row = r.0;
            own = row.own;
            body = row.body;
            numbered = r.1;
            marked = row.marked;
            stands = stays_at t.operators all g r.0 (unit_operator d row.own row.body) row.stands;
            means = record { names = t.names; are = h.are values a; means = row.means all (grown_keeps (numbers_of t.numbers.items) t.operators g) };
          }

      named_there : (k : ℕ) (o : Operator) → slice_get all k ≡ Some o → o.name ≢ [] → (i : ℕ) × (d : Definition) × (slice_get (definitions_in p.units) i ≡ Some d) × (numbers_of t.numbers.items i ≡ Some k)
      named_there k o e named =
          h.named k o (named_before t.operators g.0 (subst (λ (l : List Operator). named_in l ≡ named_in t.operators) g.1 u) k o (subst (λ (l : List Operator). slice_get l k ≡ Some o) g.1 e) named) named

  filled_table : (values : List Val) → AreNames p c values by_index names → IsTable p c values (numbers_of t.numbers.items) t.operators
  filled_table values a = filled_stays values a t.operators (grows_none t.operators) refl h.smaller

pub tabled : {E : Type 0} (p : Program) (c : Config) (names : List Entry) (marks : List Bool) (uses : order.Table) (xs : List ℕ) (r : Result Table E) → AreUses p c uses → IsOrderApart marks uses xs → IfOk r (Filled p c names marks xs (length xs) (length (definitions_in p.units))) → IfOk r (λ t. (values : List Val) → AreNames p c values by_index names → IsTable p c values (numbers_of t.numbers.items) t.operators)
tabled p c names marks uses xs (Ok t) used is h =
    let le : length xs ≤ length xs = omega arith in
    let end : length (definitions_in p.units) ≤ length (definitions_in p.units) = omega arith in
    filled_table p c names marks uses xs (length xs) (length (definitions_in p.units)) t used.as_many is le end h
tabled p c names marks uses xs (Err e) used is h = tt

pub lasting : {E : Type 0} (p : Program) (c : Config) (names : List Entry) (marks : List Bool) (uses : order.Table) (xs : List ℕ) (r : Result Table E) → AreUses p c uses → IsOrderApart marks uses xs → IfOk r (Filled p c names marks xs (length xs) (length (definitions_in p.units))) → IfOk r (λ t. (values : List Val) → AreNames p c values by_index names → StaysTable p c values (numbers_of t.numbers.items) t.operators)
lasting p c names marks uses xs (Ok t) used is h =
    let le : length xs ≤ length xs = omega arith in
    let end : length (definitions_in p.units) ≤ length (definitions_in p.units) = omega arith in
    filled_stays p c names marks uses xs (length xs) (length (definitions_in p.units)) t used.as_many is le end h
lasting p c names marks uses xs (Err e) used is h = tt
