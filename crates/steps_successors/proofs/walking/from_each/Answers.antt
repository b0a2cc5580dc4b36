use Rattle.std.proofs.Common.{◌+◌, ◌∙◌, sym, ap, [], arith, length}
use Rattle.std.specs.Vec.Iter.{into_iter_items}
use Rattle.actions_rows.specs.Rows.{before, setting}
use Rattle.steps_walk.proofs.Loops.{ahead_at, ahead_first, ahead_next, ahead_over, each_done, each_ground, each_start, each_step, each_stop}
use Rattle.steps_successors.proofs.walking.from_each.Goals as goal

pub walk-requires : goal.walk-requires
walk-requires c =
    let g = setting c.args.stage in
    let sees = c.args.stage.sees.now in
    let ctx = before c.args.stage [] in
    let ps = c.args.found.items in
    let ahead = c.loop-places.invariant.ahead in
    let left = into_iter_items c.next.new.self in
    let cut = ahead_at ps (into_iter_items c.loop-places.places-iterator) ahead.0 c.in-Some.places left ahead.1 c.in-Some.ensures.steps.0 in
    each_ground g 400 sees ctx c.args.term.now ps ahead.0 c.in-Some.places cut c.requires

pub loop-places-init : goal.loop-places-init
loop-places-init c =
    let ps = c.args.found.items in
    let gives = c.into_iter-places-iterator.ensures.into_iter_gives in
    record {
      ahead = (0, ahead_first ps ∙ sym gives.0, each_start (setting c.args.stage) 400 c.args.stage.sees.now (before c.args.stage []) c.args.term.now ps c.new-all.result.items c.new-all.ensures.items);
      len = omega (arith, gives.1, ap length gives.0, c.args.found.ok.0);
    }

pub loop-places-preserved : goal.loop-places-preserved
loop-places-preserved c =
    let g = setting c.args.stage in
    let sees = c.args.stage.sees.now in
    let ctx = before c.args.stage [] in
    let ps = c.args.found.items in
    let ahead = c.loop-places.invariant.ahead in
    let all = into_iter_items c.loop-places.places-iterator in
    let left = into_iter_items c.next.new.self in
    let step = c.in-Some.ensures.steps in
    let cut = ahead_at ps all ahead.0 c.in-Some.places left ahead.1 step.0 in
    let more = each_step g 400 sees ctx c.args.term.now ps ahead.0 c.in-Some.places c.loop-places.all.items c.in-Ok.further.items c.append.new.found.items cut c.in-Ok.ensures.found c.in_ok-append-in-Ok.ensures ahead.2 in
    record {
      ahead = (ahead.0 + 1, ahead_next ps all ahead.0 c.in-Some.places left ahead.1 step.0, more);
      len = omega (arith, step.1, c.loop-places.invariant.len, ap length step.0);
    }

pub returns-in-Err-clause-fault : goal.returns-in-Err-clause-fault
returns-in-Err-clause-fault c =
    let g = setting c.args.stage in
    let sees = c.args.stage.sees.now in
    let ctx = before c.args.stage [] in
    let ps = c.args.found.items in
    let ahead = c.loop-places.invariant.ahead in
    let left = into_iter_items c.next.new.self in
    let cut = ahead_at ps (into_iter_items c.loop-places.places-iterator) ahead.0 c.in-Some.places left ahead.1 c.in-Some.ensures.steps.0 in
    each_stop g 400 sees ctx c.args.term.now ps ahead.0 c.in-Some.places c.in-Err.fault cut c.in-Err.ensures.fault

pub returns-clause-found : goal.returns-clause-found
returns-clause-found c =
    let ps = c.args.found.items in
    let ahead = c.loop-places.invariant.ahead in
    let over = sym c.loop-places.invariant.len ∙ c.in-None.ensures.steps.0 in
    each_done (setting c.args.stage) 400 c.args.stage.sees.now (before c.args.stage []) c.args.term.now ps ahead.0 c.loop-places.all.items (ahead_over ps (into_iter_items c.loop-places.places-iterator) ahead.0 ahead.1 over) ahead.2
