use Rattle.std.proofs.Common.{◌≡◌, ◌∙◌, sym, ap, refl, subst, List, length, ◌<◌, ◌≤◌, arith, get_or, map}
use Rattle.std.specs.Borrow.{Bor}
use Rattle.std.specs.Prelude.{Bool, false}
use Rattle.std.specs.List.{slice_index_or}
use Rattle.std.proofs.lemmas.Option.{slice_get_read}
use Rattle.reading_trees.specs.declared.expr.Definition.{Definition}
use Rattle.reading_trees.specs.declared.module.Unit.{Unit as ModuleUnit}
use Rattle.names_meanings.specs.Outcomes.{takes_of}
use Rattle.names_program.specs.InUnits.{definitions_in}
use Rattle.names_program.specs.Recursion.{AreLevelsOf}
use Rattle.names_tables.specs.UnitComplaints.{unit_complaint}
use Rattle.names_tables.proofs.Faults.{all_fine, counted_more, fine_on, first_there, marked, one_at_most, still_in, takes_still}
use Rattle.names_tables.proofs.Placeholders.{begun_known, begun_takes, marks_of}
use Rattle.names_tables.proofs.fault.first_name_fault.Goals as goal

pub loop-unit-init : goal.loop-unit-init
loop-unit-init c =
    let ops = c.in_ok-table.table in
    let levels = c.in_ok-levels.levels.items in
    let e : marks_of ops ≡ levels = c.in_ok-table.ensures.levels ∙ c.deref-2.ensures.value in
    record {
      counted = refl;
      few = omega arith;
      known = begun_known c.args.program.now c.args.config.now levels c.in_ok-levels.ensures ops c.args.names.now e c.requires.known;
      smaller = c.in_ok-table.ensures.smaller;
      takes = λ bs h. begun_takes c.args.program.now c.args.config.now c.requires.are.0 c.args.names.now c.requires.are.1 levels c.in_ok-levels.ensures ops e bs h;
      fine = λ j f lt. absurd (omega arith);
    }

pub wrong_of-requires-clause-levels : goal.wrong_of-requires-clause-levels
wrong_of-requires-clause-levels c = subst (λ (bs : List Bool). AreLevelsOf c.args.program.now c.args.config.now bs) (sym c.deref.ensures.value) c.in_ok-levels.ensures

pub loop-unit-preserved : goal.loop-unit-preserved
loop-unit-preserved c =
    let p = c.args.program.now in
    let us = p.units in
    let k = c.loop-unit.unit-index in
    let u = c.unit-item.result in
    let lt : k < length us = subst (λ (l : List ModuleUnit). k < length l) c.items-unit-items.ensures c.loop-unit-test.true in
    let is : u ≡ get_or us k u = c.unit-item.is ∙ ap (λ (l : List ModuleUnit). get_or l k u) c.items-unit-items.ensures in
    let stands = slice_get_read us (length us) k u refl lt is in
    let mark = marked p c.args.config.now c.in_ok-marks.marks.items c.loop-unit.index c.is_marked-wrong.result c.in_ok-marks.ensures (c.is_marked-wrong.ensures ∙ ap (λ (l : List Bool). slice_index_or l c.loop-unit.index false) c.deref-in-loop-unit.ensures.value) in
    let levels = c.in_ok-levels.levels.items in
    let takes = c.loop-unit.invariant.takes levels c.in_ok-levels.ensures in
    let all : map (λ (d : Bor Definition). d.now) c.deref-in-loop-unit-2.result.now ≡ definitions_in us = ap (map (λ (d : Bor Definition). d.now)) c.deref-in-loop-unit-2.ensures.value ∙ c.in_ok-definitions.ensures in
    let exact = c.in_ok-found.ensures.exact ∙ ap (λ (ds : List Definition). unit_complaint ds (takes_of c.loop-unit.table c.args.names.now) c.is_marked-wrong.result u) all in
    record {
      counted = counted_more us k u c.loop-unit.index c.definitions_of-index.result lt is c.loop-unit.invariant.counted c.definitions_of-index.ensures;
      few = omega (arith, c.loop-unit.invariant.few, one_at_most u c.definitions_of-index.result c.definitions_of-index.ensures);
      known = still_in c.loop-unit.table c.unit_fault.new.table c.args.names.now (c.in_ok-found.ensures.grown c.in-None.is) c.loop-unit.invariant.known;
      smaller = c.in_ok-found.ensures.smaller c.in-None.is;
      takes = λ bs h. takes_still c.args.names.now c.loop-unit.table c.unit_fault.new.table c.loop-unit.invariant.known (c.in_ok-found.ensures.grown c.in-None.is) ∙ c.loop-unit.invariant.takes bs h;
      fine = fine_on p c.args.config.now levels c.in_ok-levels.ensures c.args.names.now c.loop-unit.table takes k u stands c.loop-unit.index c.loop-unit.invariant.counted c.is_marked-wrong.result mark c.in_ok-found.found exact c.in-None.is c.loop-unit.invariant.fine;
    }

pub returns-in-Some : goal.returns-in-Some
returns-in-Some c =
    let p = c.args.program.now in
    let us = p.units in
    let k = c.loop-unit.unit-index in
    let u = c.unit-item.result in
    let lt : k < length us = subst (λ (l : List ModuleUnit). k < length l) c.items-unit-items.ensures c.loop-unit-test.true in
    let is : u ≡ get_or us k u = c.unit-item.is ∙ ap (λ (l : List ModuleUnit). get_or l k u) c.items-unit-items.ensures in
    let stands = slice_get_read us (length us) k u refl lt is in
    let mark = marked p c.args.config.now c.in_ok-marks.marks.items c.loop-unit.index c.is_marked-wrong.result c.in_ok-marks.ensures (c.is_marked-wrong.ensures ∙ ap (λ (l : List Bool). slice_index_or l c.loop-unit.index false) c.deref-in-loop-unit.ensures.value) in
    let levels = c.in_ok-levels.levels.items in
    let takes = c.loop-unit.invariant.takes levels c.in_ok-levels.ensures in
    let all : map (λ (d : Bor Definition). d.now) c.deref-in-loop-unit-2.result.now ≡ definitions_in us = ap (map (λ (d : Bor Definition). d.now)) c.deref-in-loop-unit-2.ensures.value ∙ c.in_ok-definitions.ensures in
    let exact = c.in_ok-found.ensures.exact ∙ ap (λ (ds : List Definition). unit_complaint ds (takes_of c.loop-unit.table c.args.names.now) c.is_marked-wrong.result u) all in
    first_there p c.args.config.now levels c.in_ok-levels.ensures c.args.names.now c.loop-unit.table takes k u stands c.loop-unit.index c.loop-unit.invariant.counted c.is_marked-wrong.result mark c.in-Some.fault c.in_ok-found.found exact c.in-Some.is c.loop-unit.invariant.fine

pub returns : goal.returns
returns c =
    let same : length c.items-unit-items.result.now ≡ length c.args.program.now.units = ap length c.items-unit-items.ensures in
    let le : length c.args.program.now.units ≤ length c.items-unit-items.result.now = omega (arith, same) in
    all_fine c.args.program.now c.args.config.now (length c.items-unit-items.result.now) c.loop-unit.unit-index le c.loop-unit-test.false c.loop-unit.invariant.fine
