use Rattle.std.proofs.Common.{◌≤◌, length, ◌≡◌, ◌++◌, take}
use Rattle.names_terms.specs.TermViews.{steps_of}
use Rattle.names_term_parts.specs.Parts.{steps_parts}
use Rattle.names_term_parts.specs.Waiting.{waiting}
use Rattle.names_term_parts.proofs.pending.push_steps.Given as goal

abbrev pub invariant-loop-left : goal.invariant-loop-left
invariant-loop-left l = (l.left ≤ length l.steps) × (waiting l.stack.items ++ steps_parts l.under (steps_of (take l.left l.steps)) ≡ waiting l.initial.stack.items ++ steps_parts l.primed (steps_of l.steps))

abbrev pub decreases-loop-left : goal.decreases-loop-left
decreases-loop-left l = l.left
