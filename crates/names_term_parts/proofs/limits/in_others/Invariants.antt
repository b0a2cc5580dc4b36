use Rattle.std.proofs.Common.{◌≡◌, take}
use Rattle.names_term_parts.specs.FaultOrder.{held_all}
use Rattle.names_term_parts.specs.Chains.{other_limits}
use Rattle.names_term_parts.proofs.limits.in_others.Given as goal

abbrev pub invariant-loop-operand : goal.invariant-loop-operand
invariant-loop-operand l = l.found ≡ held_all l.initial.found (other_limits l.allowed (take l.operand-index l.others))
