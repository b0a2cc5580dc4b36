use Rattle.std.proofs.Common.{ap}
use Rattle.states_core.specs.declared.var_id.VarId.{VarId}
use Rattle.steps_moves.proofs.Ahead.{advances, ends_exact, finished, stops_at}
use Rattle.steps_moves.proofs.moving.moved.Goals as goal

pub returns-in_default-clause-none : goal.returns-in_default-clause-none
returns-in_default-clause-none c = λ t h.
    stops_at c.args.updates.now c.items-all.result.now c.loop-update.update-index c.update-item.result c.args.from.now c.loop-update.places c.in_ok-next.next c.items-all.ensures c.loop-update-test.true c.update-item.is
    c.loop-update.invariant c.in_ok-next.ensures c.in_default.is t

pub loop-update-preserved : goal.loop-update-preserved
loop-update-preserved c =
    advances c.args.updates.now c.items-all.result.now c.loop-update.update-index c.update-item.result c.args.from.now c.loop-update.places c.put.new.self c.variable.result.0 c.in_ok-next.next c.in-Some.value
    c.items-all.ensures c.requires.within c.loop-update-test.true c.update-item.is c.loop-update.invariant c.in_ok-next.ensures c.in-Some.is c.is_value.ensures
    (ap (λ (v : VarId). v.0) c.variable.ensures) c.in_ok-put.ensures.put

pub returns-clause-exact : goal.returns-clause-exact
returns-clause-exact c = λ t.
    ends_exact c.args.updates.now c.args.from.now c.loop-update.places
    (finished c.args.updates.now c.items-all.result.now c.loop-update.update-index c.args.from.now c.loop-update.places c.items-all.ensures c.loop-update-test.false c.loop-update.invariant) t
