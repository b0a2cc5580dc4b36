use Rattle.std.proofs.Common.{◌≡◌, ◌++◌, take, drop}
use Rattle.run_texts.specs.States.{with_number}
use Rattle.run_texts.proofs.order.place_among.Given as goal

abbrev pub invariant-loop-i : goal.invariant-loop-i
invariant-loop-i l = take l.i l.sorted ++ with_number l.names l.fn.number (drop l.i l.sorted) ≡ with_number l.names l.fn.number l.sorted
