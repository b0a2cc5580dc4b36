use Rattle.std.proofs.Common.{◌≡◌, ◌++◌, take}
use Rattle.std.specs.Prelude.{map}
use Rattle.names_term_parts.specs.Parts.{parts_of}
use Rattle.names_term_parts.specs.Waiting.{waiting}
use Rattle.names_term_parts.proofs.pending.push_others.Given as goal

abbrev pub invariant-loop-operand : goal.invariant-loop-operand
invariant-loop-operand l = waiting l.stack.items ≡ waiting l.initial.stack.items ++ parts_of l.primed (map (λ x. x.value) (take l.operand-index l.others))
