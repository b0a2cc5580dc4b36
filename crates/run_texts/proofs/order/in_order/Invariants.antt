use Rattle.std.proofs.Common.{◌≡◌}
use Rattle.run_texts.specs.States.{in_order_below}
use Rattle.run_texts.proofs.order.in_order.Given as goal

abbrev pub invariant-loop-number : goal.invariant-loop-number
invariant-loop-number l = l.sorted.items ≡ in_order_below l.names l.number
