use Rattle.std.proofs.Common.{◌≡◌, ◌++◌, ◌≤◌, length, take}
use Rattle.std.specs.Prelude.{reverse}
use Rattle.names_term_levels.specs.Shape.{rows}
use Rattle.names_term_levels.proofs.gathering.push_reversed.Given as goal

abbrev pub invariant-loop-left : goal.invariant-loop-left
invariant-loop-left l = (l.left ≤ length l.terms) × (rows l.stack.items ++ reverse (take l.left l.terms) ≡ rows l.initial.stack.items ++ reverse l.terms)

abbrev pub decreases-loop-left : goal.decreases-loop-left
decreases-loop-left l = l.left
