use Rattle.std.proofs.Common.{◌∙◌, ◌+◌, List, [], ◌∷◌, ◌++◌, sym, subst, ap, map, take, length, arith}
use Rattle.std.specs.Vec.Iter.{into_iter_items}
use Rattle.std.proofs.lemmas.List.{take_all}
use Rattle.steps_walk.proofs.Loops.{ahead_at, ahead_first, ahead_next, ahead_over, within}
use Rattle.steps_why_walk.proofs.Changing.{altered_more}
use Rattle.values_core.specs.Data.{Val}
use Rattle.eval_meanings.specs.Unchanged.{changed_of}
use Rattle.actions_rows.specs.Rows.{before, setting}
use Rattle.steps_why_branches.specs.declared.why.Ended.{Ended}
use Rattle.steps_why_walk.specs.Walking.{EndsAltered}
use Rattle.steps_why_walk.proofs.changes.altered_ends.Goals as goal
use denote.Ref.{Bor}

abbrev value : Bor Val → Val
value x = x.now

pub loop-end-init : goal.loop-end-init
loop-end-init c =
    let s = c.args.stage in
    let g = setting c.args.stage in
    let vs = map value c.args.slots.now in
    let ctx = before c.args.stage (map value c.args.slots.now) in
    let d = c.args.depth in
    let ch = changed_of c.args.at c.args.term.now in
    let ps = c.args.found.items in
    let gives = c.into_iter-end-iterator.ensures.into_iter_gives in
    record {
      ahead = (0, ahead_first ps ∙ sym gives.0, c.in_ok-all.ensures.items);
      len = omega (arith, gives.1, ap length gives.0, c.args.found.ok.0);
    }

pub altered_end-requires : goal.altered_end-requires
altered_end-requires c =
    let s = c.args.stage in
    let g = setting c.args.stage in
    let vs = map value c.args.slots.now in
    let ctx = before c.args.stage (map value c.args.slots.now) in
    let d = c.args.depth in
    let ch = changed_of c.args.at c.args.term.now in
    let ps = c.args.found.items in
    let ahead = c.loop-end.invariant.ahead in
    let i = ahead.0 in
    let left = into_iter_items c.next.new.self in
    let step = c.in-Some.ensures.steps in
    let cut = ahead_at ps (into_iter_items c.loop-end.end-iterator) i c.in-Some.end left ahead.1 step.0 in
    c.requires c.in-Some.end (within ps i c.in-Some.end cut)

pub loop-end-preserved : goal.loop-end-preserved
loop-end-preserved c =
    let s = c.args.stage in
    let g = setting c.args.stage in
    let vs = map value c.args.slots.now in
    let ctx = before c.args.stage (map value c.args.slots.now) in
    let d = c.args.depth in
    let ch = changed_of c.args.at c.args.term.now in
    let ps = c.args.found.items in
    let ahead = c.loop-end.invariant.ahead in
    let i = ahead.0 in
    let left = into_iter_items c.next.new.self in
    let step = c.in-Some.ensures.steps in
    let cut = ahead_at ps (into_iter_items c.loop-end.end-iterator) i c.in-Some.end left ahead.1 step.0 in
    let more = altered_more g d ctx ch (take i ps) c.loop-end.all.items c.in-Some.end c.in-Ok.further ahead.2 c.in-Ok.ensures in
    let next = subst (λ (us : List Ended). EndsAltered g d ctx ch us c.push.new.self.items) (sym cut.more) (subst (λ (ns : List Ended). EndsAltered g d ctx ch (take i ps ++ c.in-Some.end ∷ []) ns) (sym c.in_ok-push-in-Ok.ensures.items) more) in
    record {
      ahead = (i + 1, ahead_next ps (into_iter_items c.loop-end.end-iterator) i c.in-Some.end left ahead.1 step.0, next);
      len = omega (arith, step.1, c.loop-end.invariant.len, ap length step.0);
    }

pub returns : goal.returns
returns c =
    let s = c.args.stage in
    let g = setting c.args.stage in
    let vs = map value c.args.slots.now in
    let ctx = before c.args.stage (map value c.args.slots.now) in
    let d = c.args.depth in
    let ch = changed_of c.args.at c.args.term.now in
    let ps = c.args.found.items in
    let ahead = c.loop-end.invariant.ahead in
    let over = ahead_over ps (into_iter_items c.loop-end.end-iterator) ahead.0 ahead.1 (sym c.loop-end.invariant.len ∙ c.in-None.ensures.steps.0) in
    subst (λ (us : List Ended). EndsAltered g d ctx ch us c.loop-end.all.items) (take_all ahead.0 ps over) ahead.2
