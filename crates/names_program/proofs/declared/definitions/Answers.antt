use Rattle.std.proofs.Common.{◌∙◌, ap, refl}
use Rattle.names_program.specs.InUnits.{definitions_in}
use Rattle.names_program.proofs.Cuts.{part_on, part_end}
use Rattle.names_program.proofs.DeclaredLemmas.{definitions_behind}
use Rattle.names_program.proofs.declared.definitions.Goals as goal

pub loop-unit-preserved : goal.loop-unit-preserved
loop-unit-preserved c =
    part_on definitions_in definitions_behind _ _ _ c.items-unit-items.result.now c.loop-unit.unit-index c.unit-item.result c.loop-unit-test.true c.unit-item.is c.in_ok-add_definition.ensures c.loop-unit.invariant

pub returns : goal.returns
returns c =
    part_end definitions_in refl _ _ c.items-unit-items.result.now c.loop-unit.unit-index c.loop-unit-test.false c.loop-unit.invariant ∙ ap definitions_in c.items-unit-items.ensures
