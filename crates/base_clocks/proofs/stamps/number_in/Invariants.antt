use Rattle.std.proofs.Common.{◌≡◌, drop}
use Rattle.std.specs.Prelude.{max}
use Rattle.base_clocks.specs.Stamps.{number}
use Rattle.base_clocks.proofs.stamps.number_in.Given as goal

abbrev pub invariant-loop-stamp : goal.invariant-loop-stamp
invariant-loop-stamp l = max l.greatest (number (drop l.stamp-index l.stamps) l.node) ≡ number l.stamps l.node
