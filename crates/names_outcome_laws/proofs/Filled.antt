-- The table of a program of whose names none is wrong, filled: one more definition placed, and one more body, at a time.
use Rattle.std.proofs.Common.{◌≡◌, ◌≢◌, sym, refl, subst, arith, ℕ, zero, suc, ◌+◌, List, [], ◌∷◌, length, ◌<◌, ◌≤◌, get_or, Ok}
use Rattle.std.specs.Prelude.{◌↔◌, ◌^◌, Bool, true, false, Some, IsTrue, slice_get}
use Rattle.std.specs.List.{slice_index_or}
use Rattle.values_core.specs.Data.{Val}
use Rattle.reading_trees.specs.declared.config.Config.{Config}
use Rattle.reading_trees.specs.declared.expr.Definition.{Definition}
use Rattle.reading_trees.specs.declared.module.Program.{Program}
use Rattle.names_terms.specs.declared.operator.Operator.{Operator}
use Rattle.names_terms.specs.declared.operator.Own.{Own}
use Rattle.names_scopes.specs.declared.meant.Entry.{Entry}
use Rattle.names_scopes.specs.Standing.{AreIn}
use Rattle.names_program.specs.InUnits.{definitions_in}
use Rattle.names_program.specs.Names.{AreByDefinition, AreNames, by_index, numbers_of}
use Rattle.names_program.specs.Uses.{UsesItself}
use Rattle.base_use_order.specs.Uses as order
use Rattle.base_use_order.specs.Apart.{IsOrderApart}
use Rattle.names_tables.specs.declared.table.Table.{Table}
use Rattle.names_tables.specs.Filling.{Filled, IsBegun, IsPlaced, IsSettledIf, IsWaiting}
use Rattle.names_tables.specs.NameFaults.{HasFineNames}
use Rattle.names_tables.specs.Owns.{own_by}
use Rattle.names_tables.specs.Tables.{IsTable, StaysTable}
use Rattle.names_tables.proofs.Filling.{begun_filled, filled_placed, fine_next, next_within}
use Rattle.names_tables.proofs.Marking.{marked_in}
use Rattle.names_tables.proofs.OwnMarks.{unmarked}
use Rattle.names_tables.proofs.Settling.{filled_settled, fine_body, lasting, number_there, tabled}
use Rattle.names_outcome_laws.proofs.Lets.{LetsSoFar, none_so_far}
use Rattle.names_outcome_laws.proofs.Placing.{KeepsSoFar, WaitsAt, begun, lists_are, lists_of, some_placed, some_settled_if}
use Rattle.names_outcome_laws.proofs.Using.{marks, marks_are, names_are, names_in, names_of, order_there, uses, uses_are}
use Rattle.names_outcome_laws.proofs.Vectors.{IsShort}

pub definition_at : (ds : List Definition) (k : ℕ) → k < length ds → (d : Definition) × (slice_get ds k ≡ Some d)
definition_at [] k lt = absurd (omega (arith, lt))
definition_at (d ∷ ds) zero lt = (d, refl)
definition_at (d ∷ ds) (suc k) lt = definition_at ds k (omega (arith, lt))

module _ (p : Program) (c : Config) (values : List Val) (fine : HasFineNames p c) (few : length (definitions_in p.units) < 2 ^ 63) where
  abbrev names : List Entry
  names = names_of p c values

  abbrev all_uses : order.Table
  all_uses = uses p c values

  abbrev all_marks : List Bool
  all_marks = marks p c values

  abbrev xs : List ℕ
  xs = (order_there p c values).0

  is : IsOrderApart all_marks all_uses xs
  is = (order_there p c values).1

  recursive : (i : ℕ) → IsTrue (slice_index_or all_marks i false) ↔ UsesItself p c i
  recursive = marked_in p c all_uses all_marks (uses_are p c values) (marks_are p c values)

  lists : (ws : List Val) → AreNames p c ws by_index names → AreByDefinition p c ws (lists_of names (length (definitions_in p.units)))
  lists ws a = lists_are names (length (definitions_in p.units)) (names_in p c values) p c ws a

  many : length all_uses ≡ length (definitions_in p.units)
  many = (uses_are p c values).as_many

  short : (j from : ℕ) (t : Table) → Filled p c names all_marks xs j from t → IsShort t.numbers.items
  short j from t h = subst (λ (k : ℕ). k < 2 ^ 63) (sym h.as_many) few

  -- where each definition of the program has a name, each row without one is of a LET
  abbrev IsSoFar : Table → Type 0
  IsSoFar t = ((i : ℕ) (d : Definition) → slice_get (definitions_in p.units) i ≡ Some d → d.name ≢ []) → LetsSoFar t.operators

  -- so many of the order are placed
  placed : (j : ℕ) → j ≤ length xs → (t : Table) × Filled p c names all_marks xs j 0 t × IsSoFar t
  placed zero le =
      let b : (t : Table) × IsBegun names (length (definitions_in p.units)) t = begun names (length (definitions_in p.units)) few in
      (b.0, begun_filled p c names all_marks xs b.0 b.1, λ named. subst (λ (l : List Operator). LetsSoFar l) (sym b.1.operators) none_so_far)
  placed (suc j) le = one_more (placed j (omega (arith, le)))
    where
      lt : j < length xs
      lt = omega (arith, le)

      less : get_or xs j 0 < length (definitions_in p.units)
      less = (let within : get_or xs j 0 < length all_uses = next_within all_marks all_uses xs j is lt in omega (arith, within, many))

      d : (d : Definition) × (slice_get (definitions_in p.units) (get_or xs j 0) ≡ Some d)
      d = definition_at (definitions_in p.units) (get_or xs j 0) less

      own : Own
      own = own_by names (slice_index_or all_marks (get_or xs j 0) false) (get_or xs j 0) d.0

      one_more : (t : Table) × Filled p c names all_marks xs j 0 t × IsSoFar t → (t : Table) × Filled p c names all_marks xs (suc j) 0 t × IsSoFar t
      one_more (old, h, so) =
          let within : get_or xs j 0 < length old.numbers.items = omega (arith, less, h.as_many) in
          let n : (new : Table) × IsPlaced (lists_of names (length (definitions_in p.units))) own (get_or xs j 0) d.0 old new × KeepsSoFar d.0 old new =
          some_placed (lists_of names (length (definitions_in p.units))) own (get_or xs j 0) d.0 old (short j 0 old h) within h.known h.smaller
          (λ q. fine_next p c values names (names_are p c values) all_marks all_uses xs is j lt d.0 d.1 old h fine (uses_are p c values) (unmarked names (slice_index_or all_marks (get_or xs j 0) false) (get_or xs j 0) d.0 q)) in
          let next : j + 1 ≡ suc j = omega arith in (
            n.0,
            subst (λ (i : ℕ). Filled p c names all_marks xs i 0 n.0) next (filled_placed p c values names (names_are p c values) all_marks all_uses xs is j lt d.0 d.1 old h fine (uses_are p c values) recursive (lists_of names (length (definitions_in p.units))) lists n.0 own refl n.1),
            λ named. n.2 (named (get_or xs j 0) d.0 d.1) (so named),
          )

  over : length xs ≤ length xs
  over = omega arith

  -- so many of those that use themselves have their bodies
  settled : (j : ℕ) → j ≤ length (definitions_in p.units) → (t : Table) × Filled p c names all_marks xs (length xs) j t × IsSoFar t
  settled zero le = placed (length xs) over
  settled (suc j) le = one_more (settled j (omega (arith, le)))
    where
      d : (d : Definition) × (slice_get (definitions_in p.units) j ≡ Some d)
      d = definition_at (definitions_in p.units) j (omega (arith, le))

      one_more : (t : Table) × Filled p c names all_marks xs (length xs) j t × IsSoFar t → (t : Table) × Filled p c names all_marks xs (length xs) (suc j) t × IsSoFar t
      one_more (old, h, so) =
          let row : (k : ℕ) × (numbers_of old.numbers.items j ≡ Some k) × (k < length old.operators) =
          number_there p c values names (names_are p c values) all_marks all_uses xs is (length xs) over fine (uses_are p c values) recursive j d.0 d.1 old h in
          let waits : slice_index_or all_marks j false ≡ true → WaitsAt old row.0 d.0 =
          λ marked. let least : j ≤ j = omega arith in let w : IsWaiting p c old j d.0 row.0 = h.waiting j d.0 row.0 d.1 row.1 (marked, least) in (w.own, w.stands) in
          let n : (new : Table) × IsSettledIf (slice_index_or all_marks j false) j d.0 old new × ((slice_index_or all_marks j false ≡ true → WaitsAt old row.0 d.0) → KeepsSoFar d.0 old new) =
          some_settled_if (slice_index_or all_marks j false) j row.0 d.0 old row.1 row.2 h.known h.smaller (fine_body p c values names (names_are p c values) all_marks all_uses xs is (length xs) over fine (uses_are p c values) recursive j d.0 d.1 old h) in
          let next : j + 1 ≡ suc j = omega arith in (
            n.0,
            subst (λ (i : ℕ). Filled p c names all_marks xs (length xs) i n.0) next (filled_settled p c values names (names_are p c values) all_marks all_uses xs is (length xs) over fine (uses_are p c values) recursive j d.0 d.1 old h (slice_index_or all_marks j false) n.0 refl n.1),
            λ named. n.2 waits (named j d.0 d.1) (so named),
          )

  -- the table, and what stays true of it
  pub record SomeTable : Type 0 where
    pub table : Table
    pub are : AreNames p c values (numbers_of table.numbers.items) table.names
    pub known : AreIn (length table.operators) table.names
    pub is_table : IsTable p c values (numbers_of table.numbers.items) table.operators
    pub stays : StaysTable p c values (numbers_of table.numbers.items) table.operators
    pub so_far : IsSoFar table

  pub some_table : SomeTable
  some_table =
      let end : length (definitions_in p.units) ≤ length (definitions_in p.units) = omega arith in
      let t : (t : Table) × Filled p c names all_marks xs (length xs) (length (definitions_in p.units)) t × IsSoFar t = settled (length (definitions_in p.units)) end in
      record {
        table = t.0;
        are = t.1.are values (names_are p c values);
        known = t.1.known;
        is_table = tabled {E = Unit {0}} p c names all_marks all_uses xs (Ok t.0) (uses_are p c values) is t.1 values (names_are p c values);
        stays = lasting {E = Unit {0}} p c names all_marks all_uses xs (Ok t.0) (uses_are p c values) is t.1 values (names_are p c values);
        so_far = t.2;
      }
