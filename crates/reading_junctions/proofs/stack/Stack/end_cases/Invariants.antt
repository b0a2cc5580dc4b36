use Rattle.std.proofs.Common.{◌≡◌, length}
use Rattle.reading_trees.specs.Opens.{without_cases}
use Rattle.reading_junctions.proofs.stack.Stack.end_cases.Given as goal

abbrev pub invariant-loop-self : goal.invariant-loop-self
invariant-loop-self l = without_cases l.self ≡ without_cases l.fn.self

abbrev pub decreases-loop-self : goal.decreases-loop-self
decreases-loop-self l = length l.self
