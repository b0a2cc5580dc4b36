use Rattle.std.proofs.Common.{◌≤◌, ◌<◌, length, ap, sym, arith, option_map}
use Rattle.logs_shapes.specs.Clocks.{of_nodes}
use Rattle.logs_shapes.proofs.ClockLemmas.{nodes_read, too_many}
use Rattle.logs_shapes.proofs.clock.nodes_in.Goals as goal

pub returns-then-len-gt-MAX_NODES : goal.returns-then-len-gt-MAX_NODES
returns-then-len-gt-MAX_NODES c =
    let es = c.args.members.now.entries in
    let many : 64 < length es = omega (arith, c.len.ensures.len, c.if-len-gt-MAX_NODES.true) in
    sym (ap (option_map of_nodes) (too_many es many))

pub returns : goal.returns
returns c =
    let es = c.args.members.now.entries in
    let few : length es ≤ 64 = omega (arith, c.len.ensures.len, c.if-len-gt-MAX_NODES.false) in
    sym (ap (option_map of_nodes) (nodes_read es few (sym c.if-not-are_numbers.ensures)))
