use Rattle.std.proofs.Common.{◌<◌, ℕ}
use Rattle.base_cuts.specs.Heads.{HasBelow}
use Rattle.base_cuts.specs.Views.{logs_of}
use Rattle.base_cuts.proofs.least.none_below.Given as goal

abbrev pub invariant-loop-other : goal.invariant-loop-other
invariant-loop-other g l = (i : ℕ) → i < l.other → HasBelow g.K.Clock.above (logs_of l.clocks.items) l.cut i l.clock → ⊥
