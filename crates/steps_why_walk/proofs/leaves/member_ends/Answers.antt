use Rattle.std.proofs.Common.{◌≤◌, ◌<◌, length, arith}
use Rattle.eval_parts.proofs.Loops.{cut_at}
use Rattle.steps_walk.proofs.Loops.{apart}
use Rattle.steps_why_walk.proofs.Members.{members_done, members_end, members_start, members_step}
use Rattle.steps_why_walk.proofs.leaves.member_ends.Goals as goal

pub loop-value-init : goal.loop-value-init
loop-value-init c = members_start c.args.room c.args.places.now c.args.number.0 c.new-ends.result.items c.new-ends.ensures.items

pub returns-then-len-room : goal.returns-then-len-room
returns-then-len-room c =
    let i = c.loop-value.value-index in
    let below : c.loop-value.value-index < length c.args.values.now = omega arith in
    let cut = apart c.args.values.now i c.value-item.result (cut_at c.args.values.now i c.value-item.result below c.value-item.is) in
    let full : c.args.room ≤ length c.loop-value.ends.items = omega arith in
    members_end c.args.room c.args.places.now c.args.number.0 c.args.values.now i c.value-item.result c.loop-value.ends.items c.requires.room full cut c.loop-value.invariant

pub loop-value-preserved : goal.loop-value-preserved
loop-value-preserved c =
    let i = c.loop-value.value-index in
    let below : c.loop-value.value-index < length c.args.values.now = omega arith in
    let cut = apart c.args.values.now i c.value-item.result (cut_at c.args.values.now i c.value-item.result below c.value-item.is) in
    let few : length c.loop-value.ends.items < c.args.room = omega arith in
    members_step c.args.room c.args.places.now c.args.number.0 c.args.values.now i c.value-item.result c.in_ok-end.end c.loop-value.ends.items c.push.new.self.items few cut c.in_ok-end.ensures c.in_ok-push.ensures.items c.loop-value.invariant

pub returns : goal.returns
returns c =
    let i = c.loop-value.value-index in
    let over : length c.args.values.now ≤ c.loop-value.value-index = omega arith in
    members_done c.args.room c.args.places.now c.args.number.0 c.args.values.now i c.loop-value.ends.items over c.loop-value.invariant
