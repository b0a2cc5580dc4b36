use Rattle.std.proofs.Common.{◌≡◌, take}
use Rattle.names_terms.specs.TermViews.{changes_of}
use Rattle.names_term_parts.specs.Limits.{change_limits}
use Rattle.names_term_parts.specs.FaultOrder.{held_all}
use Rattle.names_term_parts.proofs.limits.in_changes.Given as goal

abbrev pub invariant-loop-change : goal.invariant-loop-change
invariant-loop-change l = l.found ≡ held_all l.initial.found (change_limits l.at (changes_of (take l.change-index l.items)))
