use Rattle.std.proofs.Common.{◌≡◌, ◌++◌, drop, map}
use Rattle.names_least_levels.specs.Levels.{each_rises}
use Rattle.names_found_levels.proofs.levels.turned.Given as goal

abbrev pub invariant-loop-definition : goal.invariant-loop-definition
invariant-loop-definition l = l.found.items ++ each_rises l.names l.marks (map (λ d. d.now) (drop l.definition-index l.definitions)) ≡ each_rises l.names l.marks (map (λ d. d.now) l.definitions)
