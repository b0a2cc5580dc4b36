use Rattle.std.proofs.Common.{◌∙◌, ap, refl}
use Rattle.names_program.proofs.Cuts.{part_end, part_on}
use Rattle.names_pruning.specs.Told.{told}
use Rattle.names_pruning.proofs.ToldLemmas.{told_behind}
use Rattle.names_pruning.proofs.telling.told.Goals as goal

pub loop-unit-preserved : goal.loop-unit-preserved
loop-unit-preserved c =
    part_on told told_behind c.loop-unit.found.items c.add_told.new.found.items (told c.items-unit-items.result.now) c.items-unit-items.result.now c.loop-unit.unit-index c.unit-item.result
    c.loop-unit-test.true c.unit-item.is c.in_ok-add_told.ensures c.loop-unit.invariant

pub returns : goal.returns
returns c =
    part_end told refl c.loop-unit.found.items (told c.items-unit-items.result.now) c.items-unit-items.result.now c.loop-unit.unit-index c.loop-unit-test.false c.loop-unit.invariant
    ∙ ap told c.items-unit-items.ensures
