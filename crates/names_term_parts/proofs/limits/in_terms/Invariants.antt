use Rattle.std.proofs.Common.{◌≡◌, take}
use Rattle.names_terms.specs.TermViews.{terms_of}
use Rattle.names_term_parts.specs.Limits.{term_limits}
use Rattle.names_term_parts.specs.FaultOrder.{held_all}
use Rattle.names_term_parts.proofs.limits.in_terms.Given as goal

abbrev pub invariant-loop-term : goal.invariant-loop-term
invariant-loop-term l = l.found ≡ held_all l.initial.found (term_limits l.at (terms_of (take l.term-index l.items)))
