use Rattle.std.proofs.Common.{◌≡◌, take}
use Rattle.names_terms.specs.TermViews.{bounds_of}
use Rattle.names_term_parts.specs.Limits.{set_limits}
use Rattle.names_term_parts.specs.FaultOrder.{held_all}
use Rattle.names_term_parts.proofs.limits.in_sets.Given as goal

abbrev pub invariant-loop-bound : goal.invariant-loop-bound
invariant-loop-bound l = l.found ≡ held_all l.initial.found (set_limits l.at (bounds_of (take l.bound-index l.items)))
