use Rattle.std.proofs.Common.{◌+◌, ◌∙◌, sym, ap, length, map, arith}
use Rattle.std.specs.Vec.Iter.{into_iter_items}
use Rattle.values_core.specs.Data.{Val}
use Rattle.eval_meanings.specs.Unchanged.{changed_of}
use Rattle.actions_rows.specs.Rows.{before, setting}
use Rattle.steps_walk.proofs.Loops.{ahead_at, ahead_first, ahead_next, ahead_over, within}
use Rattle.steps_walk.proofs.Tested.{tested_done, tested_start, tested_step, tested_stop}
use Rattle.steps_found_states.proofs.Changes.{changed_is_test}
use Rattle.steps_walk.proofs.forms.changed_ones.Goals as goal
use denote.Ref.{Bor}

abbrev value : Bor Val → Val
value x = x.now

pub loop-places-init : goal.loop-places-init
loop-places-init c =
    let s = c.args.course.now.stage in
    let g = setting c.args.course.now.stage in
    let vs = map value c.args.slots.now in
    let ctx = before c.args.course.now.stage (map value c.args.slots.now) in
    let d = c.args.depth in
    let sees = c.args.course.now.stage.sees.now in
    let ps = c.args.found.items in
    let v = c.args.term.now in
    let a = changed_of c.args.at v in
    let is = changed_is_test g (length vs) c.args.at v in
    let gives = c.into_iter-places-iterator.ensures.into_iter_gives in
    record {
      ahead = (0, ahead_first ps ∙ sym gives.0, tested_start g d sees ctx a is ps c.in_ok-kept.kept.items c.in_ok-kept.ensures.items);
      len = omega (arith, gives.1, ap length gives.0, c.args.found.ok.0);
    }

pub changed_at-requires : goal.changed_at-requires
changed_at-requires c =
    let s = c.args.course.now.stage in
    let g = setting c.args.course.now.stage in
    let vs = map value c.args.slots.now in
    let ctx = before c.args.course.now.stage (map value c.args.slots.now) in
    let d = c.args.depth in
    let sees = c.args.course.now.stage.sees.now in
    let ps = c.args.found.items in
    let v = c.args.term.now in
    let a = changed_of c.args.at v in
    let is = changed_is_test g (length vs) c.args.at v in
    let ahead = c.loop-places.invariant.ahead in
    let i = ahead.0 in
    let q = c.in-Some.places in
    let left = into_iter_items c.next.new.self in
    let cut = ahead_at ps (into_iter_items c.loop-places.places-iterator) i q left ahead.1 c.in-Some.ensures.steps.0 in
    c.requires q (within ps i q cut)

pub loop-places-preserved : goal.loop-places-preserved
loop-places-preserved c =
    let s = c.args.course.now.stage in
    let g = setting c.args.course.now.stage in
    let vs = map value c.args.slots.now in
    let ctx = before c.args.course.now.stage (map value c.args.slots.now) in
    let d = c.args.depth in
    let sees = c.args.course.now.stage.sees.now in
    let ps = c.args.found.items in
    let v = c.args.term.now in
    let a = changed_of c.args.at v in
    let is = changed_is_test g (length vs) c.args.at v in
    let ahead = c.loop-places.invariant.ahead in
    let i = ahead.0 in
    let q = c.in-Some.places in
    let left = into_iter_items c.next.new.self in
    let cut = ahead_at ps (into_iter_items c.loop-places.places-iterator) i q left ahead.1 c.in-Some.ensures.steps.0 in
    let told = c.in-Ok.ensures in
    let step = c.in-Some.ensures.steps in
    let more = tested_step g d sees ctx a is ps i q c.loop-places.kept.items c.add_if.new.found.items c.in-Ok.holds cut told c.in_ok-add_if-in-Ok.ensures ahead.2 in
    record {
      ahead = (i + 1, ahead_next ps (into_iter_items c.loop-places.places-iterator) i q left ahead.1 step.0, more);
      len = omega (arith, step.1, c.loop-places.invariant.len, ap length step.0);
    }

pub returns-in-Err-clause-fault : goal.returns-in-Err-clause-fault
returns-in-Err-clause-fault c =
    let s = c.args.course.now.stage in
    let g = setting c.args.course.now.stage in
    let vs = map value c.args.slots.now in
    let ctx = before c.args.course.now.stage (map value c.args.slots.now) in
    let d = c.args.depth in
    let sees = c.args.course.now.stage.sees.now in
    let ps = c.args.found.items in
    let v = c.args.term.now in
    let a = changed_of c.args.at v in
    let is = changed_is_test g (length vs) c.args.at v in
    let ahead = c.loop-places.invariant.ahead in
    let i = ahead.0 in
    let q = c.in-Some.places in
    let left = into_iter_items c.next.new.self in
    let cut = ahead_at ps (into_iter_items c.loop-places.places-iterator) i q left ahead.1 c.in-Some.ensures.steps.0 in
    let told = c.in-Err.ensures in
    tested_stop g d sees ctx a is ps i q c.in-Err.fault cut told

pub returns-clause-found : goal.returns-clause-found
returns-clause-found c =
    let s = c.args.course.now.stage in
    let g = setting c.args.course.now.stage in
    let vs = map value c.args.slots.now in
    let ctx = before c.args.course.now.stage (map value c.args.slots.now) in
    let d = c.args.depth in
    let sees = c.args.course.now.stage.sees.now in
    let ps = c.args.found.items in
    let v = c.args.term.now in
    let a = changed_of c.args.at v in
    let is = changed_is_test g (length vs) c.args.at v in
    let ahead = c.loop-places.invariant.ahead in
    let i = ahead.0 in
    let over = sym c.loop-places.invariant.len ∙ c.in-None.ensures.steps.0 in
    tested_done g d sees ctx a is ps i c.loop-places.kept.items (ahead_over ps (into_iter_items c.loop-places.places-iterator) i ahead.1 over) ahead.2
