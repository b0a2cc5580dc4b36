use Rattle.std.proofs.Common.{map}
use Rattle.names_found_levels.specs.OnTheWay.{Stands}
use Rattle.names_found_levels.proofs.levels.raised_marks.Given as goal

abbrev pub invariant-loop-index : goal.invariant-loop-index
invariant-loop-index l = Stands l.names (map (λ d. d.now) l.definitions) l.marks.items
