use Rattle.std.proofs.Common.{◌∙◌, ap, refl, ◌++◌}
use Rattle.names_program.proofs.Cuts.{part_end}
use Rattle.names_instances.specs.Instances.{unit_made, units_made}
use Rattle.names_instances.specs.Renamed.{renamed}
use Rattle.names_instances.proofs.Adding.{added_on}
use Rattle.names_instances.proofs.instance.add_units.Goals as goal

pub loop-unit-preserved : goal.loop-unit-preserved
loop-unit-preserved c =
    added_on (unit_made c.args.instance.now (renamed c.args.renaming.now)) (units_made c.args.instance.now (renamed c.args.renaming.now)) (λ x xs. refl) _ _ _ c.items-unit-items.result.now c.loop-unit.unit-index c.unit-item.result c.loop-unit-test.true c.unit-item.is c.in_ok-add_unit.ensures c.loop-unit.invariant

pub returns : goal.returns
returns c =
    part_end (units_made c.args.instance.now (renamed c.args.renaming.now)) refl _ _ c.items-unit-items.result.now c.loop-unit.unit-index c.loop-unit-test.false c.loop-unit.invariant ∙ ap (λ us. c.args.units.now ++ units_made c.args.instance.now (renamed c.args.renaming.now) us) c.items-unit-items.ensures
