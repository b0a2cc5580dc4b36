use Rattle.std.proofs.Common.{◌≡◌, length}
use Rattle.reading_trees.specs.Opens.{without_list}
use Rattle.reading_junctions.proofs.stack.Stack.end_list.Given as goal

abbrev pub invariant-loop-inner : goal.invariant-loop-inner
invariant-loop-inner l = without_list l.self ≡ without_list l.fn.self

abbrev pub decreases-loop-inner : goal.decreases-loop-inner
decreases-loop-inner l = length l.self
