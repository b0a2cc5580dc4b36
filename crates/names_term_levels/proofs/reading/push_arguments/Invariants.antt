use Rattle.std.proofs.Common.{◌≡◌, ◌++◌, take}
use Rattle.names_term_parts.specs.Waiting.{waiting}
use Rattle.names_term_levels.specs.Arguments.{arguments_from}
use Rattle.names_term_levels.proofs.reading.push_arguments.Given as goal

abbrev pub invariant-loop-index : goal.invariant-loop-index
invariant-loop-index l = waiting l.stack.items ≡ waiting l.initial.stack.items ++ arguments_from l.parameters l.outer l.primed 0 (take l.index l.arguments)
