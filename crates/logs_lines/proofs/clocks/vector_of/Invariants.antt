use Rattle.std.proofs.Common.{◌≡◌, ◌++◌}
use Rattle.serde_json.specs.View.{members_view}
use Rattle.logs_shapes.specs.ClockSeen.{counts_in}
use Rattle.logs_lines.specs.Clocks.{stamps_of}
use Rattle.logs_lines.proofs.clocks.vector_of.Given as goal

abbrev pub invariant-loop-node : goal.invariant-loop-node
invariant-loop-node l = l.stamps ++ stamps_of (counts_in (members_view l.node-iterator)) ≡ stamps_of (counts_in (members_view l.members.entries))
