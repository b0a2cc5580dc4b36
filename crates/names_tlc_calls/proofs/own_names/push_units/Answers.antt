use Rattle.std.proofs.Common.{refl}
use Rattle.names_tlc_calls.specs.Programs.{unit_names, units_names}
use Rattle.names_program.proofs.Cuts.{part_end}
use Rattle.names_tlc_calls.proofs.Adding.{added_on}
use Rattle.names_tlc_calls.proofs.own_names.push_units.Goals as goal

pub loop-unit-preserved : goal.loop-unit-preserved
loop-unit-preserved c =
    added_on unit_names units_names (λ x xs. refl) _ _ _ c.args.units.now c.loop-unit.unit-index c.unit-item.result c.loop-unit-test.true c.unit-item.is c.in_ok-push_unit.ensures c.loop-unit.invariant

pub returns : goal.returns
returns c =
    part_end units_names refl _ _ c.args.units.now c.loop-unit.unit-index c.loop-unit-test.false c.loop-unit.invariant
