use Rattle.std.proofs.Common.{◌≡◌, take}
use Rattle.names_term_levels.specs.Arguments.{argued_from}
use Rattle.names_term_levels.proofs.reading.in_arguments.Given as goal

abbrev pub invariant-loop-index : goal.invariant-loop-index
invariant-loop-index l = l.found ≡ argued_from l.parameters l.outer 0 (take l.index l.arguments) l.initial.found
