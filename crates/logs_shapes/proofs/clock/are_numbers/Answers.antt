use Rattle.std.proofs.Common.{sym, ◌∙◌}
use Rattle.logs_shapes.proofs.ClockLemmas.{at_entry, behind_entry}
use Rattle.logs_shapes.proofs.clock.are_numbers.Goals as goal

pub loop-node-preserved : goal.loop-node-preserved
loop-node-preserved c =
    c.loop-node.invariant
    ∙ behind_entry (c.in-Some._node.now, c.in-Some.content.now) c.loop-node._node-iterator c.next.new.self c.in-Some.ensures.steps (sym c.if-not-is_count.ensures)

pub returns-then-not-is_count : goal.returns-then-not-is_count
returns-then-not-is_count c =
    sym (c.loop-node.invariant
    ∙ at_entry (c.in-Some._node.now, c.in-Some.content.now) c.loop-node._node-iterator c.next.new.self c.in-Some.ensures.steps (sym c.if-not-is_count.ensures))
