use Rattle.names_meanings.proofs.OwnCalls.{begun, not_begun}
use Rattle.names_meanings.proofs.own.begin.Goals as goal

pub returns-then-is_own_function : goal.returns-then-is_own_function
returns-then-is_own_function c =
    begun c.args.walk.now c.reserve.new.self c.args.definition.now c.is_own_function.result c.len.result c.in_ok-number.number c.is_own_function.ensures c.if-is_own_function.true c.len.ensures c.in_ok-number.ensures.number c.in_ok-number.ensures.names c.in_ok-number.ensures.scope c.in_ok-number.ensures.table c.in_ok-number.ensures.ordered

pub returns : goal.returns
returns c = not_begun c.args.walk.now c.args.definition.now c.is_own_function.result c.is_own_function.ensures c.if-is_own_function.false
