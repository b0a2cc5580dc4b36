use Rattle.std.proofs.Common.{ap}
use Rattle.logs_updates.specs.declared.clock.Clock.TheVariants.{Vector}
use Rattle.serde_json.specs.View.{members_view}
use Rattle.logs_shapes.specs.ClockSeen.{counts_in}
use Rattle.logs_lines.specs.Clocks.{stamps_of}
use Rattle.logs_lines.proofs.ClockLemmas.{stamps_end, stamps_more}
use Rattle.logs_lines.proofs.clocks.vector_of.Goals as goal

pub loop-node-preserved : goal.loop-node-preserved
loop-node-preserved c =
    stamps_more (c.in-Some.node.now, c.in-Some.content.now) c.loop-node.node-iterator c.next.new.self c.loop-node.stamps c.push_stamp.new.stamps
    (stamps_of (counts_in (members_view c.args.members.now.entries))) c.as_str.result.now c.in-Some.ensures.steps c.as_str.ensures.value c.in_ok-push_stamp.ensures c.loop-node.invariant

pub returns : goal.returns
returns c =
    ap Vector (stamps_end c.loop-node.node-iterator c.loop-node.stamps (stamps_of (counts_in (members_view c.args.members.now.entries))) c.in-None.ensures.steps.0 c.loop-node.invariant)
