use Rattle.std.proofs.Common.{◌≡◌, take}
use Rattle.base_clock_order.specs.Orders.{clocks_of}
use Rattle.logs_files.specs.Logs.{numbers_in}
use Rattle.logs_files.proofs.placing.all_clocks.Given as goal

abbrev pub invariant-loop-file : goal.invariant-loop-file
invariant-loop-file l = clocks_of l.clocks.items ≡ numbers_in (take l.file-index l.files)
