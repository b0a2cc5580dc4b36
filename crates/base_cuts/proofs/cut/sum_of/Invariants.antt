use Rattle.std.proofs.Common.{◌≡◌, ◌+◌, drop}
use Rattle.base_cuts.specs.Cuts.{total}
use Rattle.base_cuts.proofs.cut.sum_of.Given as goal

abbrev pub invariant-loop-count : goal.invariant-loop-count
invariant-loop-count l = l.sum + total (drop l.count-index l.counts) ≡ total l.counts
