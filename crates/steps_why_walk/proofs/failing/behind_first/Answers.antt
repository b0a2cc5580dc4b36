use Rattle.std.proofs.Common.{◌∙◌, ap, sym, length, arith}
use Rattle.std.specs.Prelude.{Some}
use Rattle.std.specs.Vec.Iter.{into_iter_items}
use Rattle.steps_why_walk.specs.Ends.{with_first}
use Rattle.steps_why_walk.proofs.PassingOver.{changed_end, changed_start, changed_step}
use Rattle.steps_why_walk.proofs.failing.behind_first.Goals as goal

pub loop-end-init : goal.loop-end-init
loop-end-init c =
    let gives = c.into_iter-end-iterator.ensures.into_iter_gives in
    record {
      items = changed_start (with_first (Some c.args.first.now)) _ _ c.args.ends.items c.in_ok-all.ensures.items gives.0;
      len = omega (arith, gives.1, ap length gives.0, c.args.ends.ok.0);
    }

pub loop-end-preserved : goal.loop-end-preserved
loop-end-preserved c =
    let step = c.in-Some.ensures.steps in
    record {
      items = changed_step (with_first (Some c.args.first.now)) c.loop-end.all.items c.push.new.self.items (into_iter_items c.loop-end.end-iterator) (into_iter_items c.next.new.self) _ c.in-Some.end c.in-Ok.further c.in_ok-push-in-Ok.ensures.items c.in-Ok.ensures step.0 c.loop-end.invariant.items;
      len = omega (arith, step.1, c.loop-end.invariant.len, ap length step.0);
    }

pub returns : goal.returns
returns c =
    let over = sym c.loop-end.invariant.len ∙ c.in-None.ensures.steps.0 in
    changed_end (with_first (Some c.args.first.now)) c.loop-end.all.items (into_iter_items c.loop-end.end-iterator) _ over c.loop-end.invariant.items
