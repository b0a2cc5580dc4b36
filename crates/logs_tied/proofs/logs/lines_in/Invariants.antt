use Rattle.std.proofs.Common.{◌≡◌, ◌+◌, drop}
use Rattle.base_cuts.specs.Cuts.{total}
use Rattle.base_cuts.specs.Orders.{sizes_of}
use Rattle.logs_tied.proofs.logs.lines_in.Given as goal

abbrev pub invariant-loop-file : goal.invariant-loop-file
invariant-loop-file l = l.count + total (sizes_of (drop l.file-index l.files)) ≡ total (sizes_of l.files)
