use Rattle.std.proofs.Common.{◌≡◌, ◌++◌, take}
use Rattle.names_terms.specs.TermViews.{arms_of}
use Rattle.names_term_parts.specs.Parts.{arm_list, parts_of}
use Rattle.names_term_parts.specs.Waiting.{waiting}
use Rattle.names_term_parts.proofs.pending.push_arms.Given as goal

abbrev pub invariant-loop-arm : goal.invariant-loop-arm
invariant-loop-arm l = waiting l.stack.items ≡ waiting l.initial.stack.items ++ parts_of l.primed (arm_list (arms_of (take l.arm-index l.items)))
