use Rattle.std.proofs.Common.{map}
use Rattle.names_found_levels.specs.OnTheWay.{Stands}
use Rattle.names_least_levels.proofs.Walking.{missing}
use Rattle.names_found_levels.proofs.levels.levels_among.Given as goal

abbrev pub invariant-loop-marks : goal.invariant-loop-marks
invariant-loop-marks l = Stands l.names (map (λ d. d.now) l.definitions) l.marks.items

abbrev pub decreases-loop-marks : goal.decreases-loop-marks
decreases-loop-marks l = missing l.marks.items
