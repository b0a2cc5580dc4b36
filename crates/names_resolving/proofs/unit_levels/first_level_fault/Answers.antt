use Rattle.std.proofs.Common.{◌≡◌, ◌∙◌, ap, refl, subst, List, length, ◌<◌, ◌≤◌, arith, get_or}
use Rattle.std.proofs.lemmas.Option.{slice_get_read}
use Rattle.reading_trees.specs.declared.module.Unit.{Unit as ModuleUnit}
use Rattle.names_terms.specs.Lists.{terms_list}
use Rattle.names_program.specs.Names.{numbers_of}
use Rattle.names_tables.proofs.Faults.{counted_more, one_at_most}
use Rattle.names_resolving.proofs.Levels.{all_fine, assumed_counted, fine_on, first_there, one_assumed}
use Rattle.names_resolving.proofs.unit_levels.first_level_fault.Goals as goal

pub loop-unit-init : goal.loop-unit-init
loop-unit-init c = record { defined = refl; assumed = refl; few = omega arith; few_assumed = omega arith; fine = λ j f lt. absurd (omega arith) }

pub loop-unit-preserved : goal.loop-unit-preserved
loop-unit-preserved c =
    let us = c.args.program.now.units in
    let k = c.loop-unit.unit-index in
    let u = c.unit-item.result in
    let lt : k < length us = subst (λ (l : List ModuleUnit). k < length l) c.items-unit-items.ensures c.loop-unit-test.true in
    let is : u ≡ get_or us k u = c.unit-item.is ∙ ap (λ (l : List ModuleUnit). get_or l k u) c.items-unit-items.ensures in
    let stands = slice_get_read us (length us) k u refl lt is in
    record {
      defined = counted_more us k u c.loop-unit.definitions c.definitions_of-definitions.result lt is c.loop-unit.invariant.defined c.definitions_of-definitions.ensures;
      assumed = assumed_counted us k u c.loop-unit.assumptions c.assumptions_of-assumptions.result lt is c.loop-unit.invariant.assumed c.assumptions_of-assumptions.ensures;
      few = omega (arith, c.loop-unit.invariant.few, one_at_most u c.definitions_of-definitions.result c.definitions_of-definitions.ensures);
      few_assumed = omega (arith, c.loop-unit.invariant.few_assumed, one_assumed u c.assumptions_of-assumptions.result c.assumptions_of-assumptions.ensures);
      fine = fine_on c.args.program.now (numbers_of c.args.table.now.numbers.items) c.args.table.now.operators (terms_list c.args.assumes.now) k u stands c.loop-unit.definitions c.loop-unit.assumptions c.loop-unit.invariant.defined c.loop-unit.invariant.assumed c.in_ok-fault.fault c.in_ok-fault.ensures c.in-None.is c.loop-unit.invariant.fine;
    }

pub returns-in-Some : goal.returns-in-Some
returns-in-Some c =
    let us = c.args.program.now.units in
    let k = c.loop-unit.unit-index in
    let u = c.unit-item.result in
    let lt : k < length us = subst (λ (l : List ModuleUnit). k < length l) c.items-unit-items.ensures c.loop-unit-test.true in
    let is : u ≡ get_or us k u = c.unit-item.is ∙ ap (λ (l : List ModuleUnit). get_or l k u) c.items-unit-items.ensures in
    let stands = slice_get_read us (length us) k u refl lt is in
    first_there c.args.program.now (numbers_of c.args.table.now.numbers.items) c.args.table.now.operators (terms_list c.args.assumes.now) k u stands c.loop-unit.definitions c.loop-unit.assumptions c.loop-unit.invariant.defined c.loop-unit.invariant.assumed c.in-Some.first c.in_ok-fault.fault c.in_ok-fault.ensures c.in-Some.is c.loop-unit.invariant.fine

pub returns : goal.returns
returns c =
    let same : length c.items-unit-items.result.now ≡ length c.args.program.now.units = ap length c.items-unit-items.ensures in
    let le : length c.args.program.now.units ≤ length c.items-unit-items.result.now = omega (arith, same) in
    all_fine c.args.program.now (numbers_of c.args.table.now.numbers.items) c.args.table.now.operators (terms_list c.args.assumes.now) (length c.items-unit-items.result.now) c.loop-unit.unit-index le c.loop-unit-test.false c.loop-unit.invariant.fine
