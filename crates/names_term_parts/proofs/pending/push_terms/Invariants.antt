use Rattle.std.proofs.Common.{◌≡◌, ◌++◌, take}
use Rattle.names_terms.specs.TermViews.{terms_of}
use Rattle.names_term_parts.specs.Parts.{listed, parts_of}
use Rattle.names_term_parts.specs.Waiting.{waiting}
use Rattle.names_term_parts.proofs.pending.push_terms.Given as goal

abbrev pub invariant-loop-term : goal.invariant-loop-term
invariant-loop-term l = waiting l.stack.items ≡ waiting l.initial.stack.items ++ parts_of l.primed (listed (terms_of (take l.term-index l.items)))
