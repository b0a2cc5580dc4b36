use Rattle.std.proofs.Common.{◌≡◌, take}
use Rattle.names_terms.specs.TermViews.{steps_of}
use Rattle.names_term_parts.specs.Limits.{path_limits}
use Rattle.names_term_parts.specs.FaultOrder.{held_all}
use Rattle.names_term_parts.proofs.limits.in_path.Given as goal

abbrev pub invariant-loop-step : goal.invariant-loop-step
invariant-loop-step l = l.found ≡ held_all l.initial.found (path_limits l.at (steps_of (take l.step-index l.items)))
