use Rattle.std.proofs.Common.{◌≡◌, ◌++◌, take}
use Rattle.names_terms.specs.TermViews.{bounds_of}
use Rattle.names_term_parts.specs.Parts.{parts_of, set_list}
use Rattle.names_term_parts.specs.Waiting.{waiting}
use Rattle.names_term_parts.proofs.pending.push_sets.Given as goal

abbrev pub invariant-loop-bound : goal.invariant-loop-bound
invariant-loop-bound l = waiting l.stack.items ≡ waiting l.initial.stack.items ++ parts_of l.primed (set_list (bounds_of (take l.bound-index l.items)))
