use Rattle.std.proofs.Common.{◌≡◌, get_or, subst, length, ◌≤◌}
use Rattle.eval_known.proofs.Bodies.{first-next, first-some}
use Rattle.eval_known.proofs.spec.knows_bodies.Goals as goal

pub loop-operator-preserved : goal.loop-operator-preserved
loop-operator-preserved c =
    first-next c.args.operators.now c.loop-operator.operator-index c.operator-item.result (subst (λ xs. c.operator-item.result ≡ get_or xs c.loop-operator.operator-index c.operator-item.result) c.items-operator-items.ensures c.operator-item.is) c.loop-operator.invariant c.in_ok-knows_values.ensures

pub returns : goal.returns
returns c = first-some c.args.operators.now c.loop-operator.operator-index (subst (λ xs. length xs ≤ c.loop-operator.operator-index) c.items-operator-items.ensures c.loop-operator-test.false) c.loop-operator.invariant
