use Rattle.std.proofs.Common.{◌≡◌, ◌++◌, drop}
use Rattle.names_found_levels.specs.Raised.{names_marked}
use Rattle.names_found_levels.proofs.around.Around.push_all.Given as goal

abbrev pub invariant-loop-name : goal.invariant-loop-name
invariant-loop-name l = l.self ++ names_marked (drop l.name-index l.names) ≡ l.initial.self ++ names_marked l.names
