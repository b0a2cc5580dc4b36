use Rattle.std.proofs.Common.{◌≡◌, take}
use Rattle.base_cuts.proofs.cut.copied.Given as goal

abbrev pub invariant-loop-count : goal.invariant-loop-count
invariant-loop-count l = l.made.items ≡ take l.count-index l.counts
