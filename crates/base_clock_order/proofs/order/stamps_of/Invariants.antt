use Rattle.std.proofs.Common.{◌≡◌, ◌++◌, drop}
use Rattle.base_clock_order.specs.Orders.{clocks_of}
use Rattle.base_clock_order.specs.Stamps.{stamps_from}
use Rattle.base_clock_order.proofs.order.stamps_of.Given as goal

abbrev pub invariant-loop-file : goal.invariant-loop-file
invariant-loop-file l = l.stamps.items ++ stamps_from l.file (drop l.file (clocks_of l.clocks)) ≡ stamps_from 0 (clocks_of l.clocks)
