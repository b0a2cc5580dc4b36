use Rattle.std.proofs.Common.{◌≡◌, ◌++◌, take}
use Rattle.names_terms.specs.TermViews.{fields_of}
use Rattle.names_term_parts.specs.Parts.{parts_of, value_list}
use Rattle.names_term_parts.specs.Waiting.{waiting}
use Rattle.names_term_parts.proofs.pending.push_values.Given as goal

abbrev pub invariant-loop-field : goal.invariant-loop-field
invariant-loop-field l = waiting l.stack.items ≡ waiting l.initial.stack.items ++ parts_of l.primed (value_list (fields_of (take l.field-index l.items)))
