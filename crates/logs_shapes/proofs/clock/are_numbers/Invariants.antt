use Rattle.std.proofs.Common.{◌≡◌, is_some}
use Rattle.serde_json.specs.View.{members_view}
use Rattle.logs_shapes.specs.Clocks.{numbers_of}
use Rattle.logs_shapes.proofs.clock.are_numbers.Given as goal

abbrev pub invariant-loop-node : goal.invariant-loop-node
invariant-loop-node l = is_some (numbers_of (members_view l.members.entries)) ≡ is_some (numbers_of (members_view l._node-iterator))
