use Rattle.std.proofs.Common.{◌<◌, List, length, ap, sym, subst}
use Rattle.std.specs.Prelude.{All}
use Rattle.states_core.specs.declared.var_id.VarId.{VarId}
use Rattle.logs_updates.specs.declared.update.Update.{Update}
use Rattle.eval_parts.proofs.Loops.{cut_at}
use Rattle.steps_walk.proofs.Loops.{apart}
use Rattle.steps_moves.proofs.Ahead.{advances, ends_exact, finished}
use Rattle.steps_why_not.proofs.Completing.{possible}
use Rattle.steps_why_not.proofs.Stopping.{far_step, far_stops}
use Rattle.steps_why_not.proofs.stuck.stuck_variable.Goals as goal

pub loop-update-preserved : goal.loop-update-preserved
loop-update-preserved c =
    let all = c.items-all.result.now in
    let i = c.loop-update.update-index in
    let u = c.update-item.result in
    let s = c.args.from.now in
    let cut = apart all i u (cut_at all i u c.loop-update-test.true c.update-item.is) in
    let each : All (λ (z : Update). z.path.variable.0 < length s) all = subst (λ (l : List Update). All (λ (z : Update). z.path.variable.0 < length s) l) (sym c.items-all.ensures) c.requires.within in
    let within = subst (λ (z : Update). z.path.variable.0 < length s) (sym c.update-item.is) (each i u c.loop-update-test.true) in
    let is = ap (λ (v : VarId). v.0) c.variable-variable.ensures in
    record {
      ahead = advances c.args.updates.now all i u s c.loop-update.places c.put.new.self c.variable-variable.result.0 c.in_ok-next.next c.in-Some.value c.items-all.ensures c.requires.within c.loop-update-test.true c.update-item.is
          c.loop-update.invariant.ahead c.in_ok-next.ensures c.in-Some.is c.is_value.ensures is c.in_ok-put.ensures.put;
      far = far_step all i u s c.loop-update.places c.put.new.self c.variable-variable.result.0 c.in_ok-next.next c.in-Some.value cut within c.loop-update.invariant.ahead.long
          c.loop-update.invariant.far c.in_ok-next.ensures c.in-Some.is is c.in_ok-put.ensures.put;
    }

pub returns-in_default : goal.returns-in_default
returns-in_default c =
    let all = c.items-all.result.now in
    let i = c.loop-update.update-index in
    let u = c.update-item.result in
    far_stops c.args.updates.now all i u c.args.from.now c.loop-update.places c.variable-variable.result.0 c.in_ok-next.next c.items-all.ensures (apart all i u (cut_at all i u c.loop-update-test.true c.update-item.is))
    c.loop-update.invariant.far c.in_ok-next.ensures c.in_default.is (ap (λ (v : VarId). v.0) c.variable-variable.ensures)

pub unreachable-requires : goal.unreachable-requires
unreachable-requires c =
    let us = c.args.updates.now in
    let s = c.args.from.now in
    let p = c.loop-update.places in
    let a = finished us c.items-all.result.now c.loop-update.update-index s p c.items-all.ensures c.loop-update-test.false c.loop-update.invariant.ahead in
    let t = possible p a.values in
    let h = (ends_exact us s p a t.0).0 t.1 in
    c.requires.none t.0 h.0 h.1
