use Rattle.std.proofs.Common.{◌≡◌, take}
use Rattle.names_terms.specs.TermViews.{fields_of}
use Rattle.names_term_parts.specs.Limits.{value_limits}
use Rattle.names_term_parts.specs.FaultOrder.{held_all}
use Rattle.names_term_parts.proofs.limits.in_values.Given as goal

abbrev pub invariant-loop-field : goal.invariant-loop-field
invariant-loop-field l = l.found ≡ held_all l.initial.found (value_limits l.at (fields_of (take l.field-index l.items)))
