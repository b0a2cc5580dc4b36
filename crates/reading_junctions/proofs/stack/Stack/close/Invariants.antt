use Rattle.std.proofs.Common.{◌≡◌, length}
use Rattle.reading_trees.specs.Opens.{closed_by}
use Rattle.reading_junctions.proofs.stack.Stack.close.Given as goal

abbrev pub invariant-loop-self : goal.invariant-loop-self
invariant-loop-self l = closed_by l.operand l.kind l.self ≡ closed_by l.operand l.kind l.fn.self

abbrev pub decreases-loop-self : goal.decreases-loop-self
decreases-loop-self l = length l.self
