use Rattle.std.proofs.Common.{◌∙◌, ap, refl, sym}
use Rattle.names_uses.proofs.Declaring.{in_operators, operator_end, operator_found, operator_on}
use Rattle.names_uses.proofs.strict.is_among.Goals as goal

pub loop-operator-init : goal.loop-operator-init
loop-operator-init c = refl

pub returns-then-eq : goal.returns-then-eq
returns-then-eq c =
    operator_found c.args.name.now c.items-operator-items.result.now c.loop-operator.operator-index c.operator-item.result _ c.loop-operator-test.true c.operator-item.is c.loop-operator.invariant (sym c.eq.ensures ∙ c.if-eq.true) ∙ ap (in_operators c.args.name.now) c.items-operator-items.ensures

pub loop-operator-preserved : goal.loop-operator-preserved
loop-operator-preserved c =
    operator_on c.args.name.now c.items-operator-items.result.now c.loop-operator.operator-index c.operator-item.result _ c.loop-operator-test.true c.operator-item.is c.loop-operator.invariant (sym c.eq.ensures ∙ c.if-eq.false)

pub returns : goal.returns
returns c =
    operator_end c.args.name.now c.items-operator-items.result.now c.loop-operator.operator-index _ c.loop-operator-test.false c.loop-operator.invariant ∙ ap (in_operators c.args.name.now) c.items-operator-items.ensures
