use Rattle.std.proofs.Common.{◌∙◌, ap, refl, sym}
use Rattle.names_uses.proofs.Declaring.{in_units, unit_end, unit_found, unit_on}
use Rattle.names_uses.proofs.strict.is_declared.Goals as goal

pub loop-unit-init : goal.loop-unit-init
loop-unit-init c = refl

pub returns-then-declares : goal.returns-then-declares
returns-then-declares c =
    unit_found c.args.name.now c.items-unit-items.result.now c.loop-unit.unit-index c.unit-item.result _ c.loop-unit-test.true c.unit-item.is c.loop-unit.invariant (sym c.declares.ensures ∙ c.if-declares.true) ∙ ap (in_units c.args.name.now) c.items-unit-items.ensures

pub loop-unit-preserved : goal.loop-unit-preserved
loop-unit-preserved c =
    unit_on c.args.name.now c.items-unit-items.result.now c.loop-unit.unit-index c.unit-item.result _ c.loop-unit-test.true c.unit-item.is c.loop-unit.invariant (sym c.declares.ensures ∙ c.if-declares.false)

pub returns : goal.returns
returns c =
    unit_end c.args.name.now c.items-unit-items.result.now c.loop-unit.unit-index _ c.loop-unit-test.false c.loop-unit.invariant ∙ ap (in_units c.args.name.now) c.items-unit-items.ensures
