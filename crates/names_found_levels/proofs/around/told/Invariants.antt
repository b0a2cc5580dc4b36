use Rattle.std.proofs.Common.{◌≡◌, drop}
use Rattle.names_found_levels.specs.Raised.{told}
use Rattle.names_least_levels.specs.Levels.{names_rise}
use Rattle.names_found_levels.proofs.Telling.{tell}
use Rattle.names_found_levels.proofs.around.told.Given as goal

abbrev pub invariant-loop-known : goal.invariant-loop-known
invariant-loop-known l = tell l.rises (drop l.known-index l.known-items) l.name ≡ told (names_rise l.names l.marks) l.around l.name
