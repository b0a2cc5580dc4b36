use Rattle.std.proofs.Common.{◌≡◌, ◌++◌, drop}
use Rattle.base_clock_order.specs.Stamps.{stamps_in}
use Rattle.base_clock_order.proofs.order.push_log.Given as goal

abbrev pub invariant-loop-index : goal.invariant-loop-index
invariant-loop-index l = l.stamps.items ++ stamps_in l.file l.index (drop l.index l.log) ≡ l.initial.stamps.items ++ stamps_in l.file 0 l.log
