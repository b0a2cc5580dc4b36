use Rattle.std.proofs.Common.{◌≡◌, take}
use Rattle.names_terms.specs.TermViews.{steps_of}
use Rattle.names_term_parts.specs.Parts.{has_prime}
use Rattle.names_term_parts.proofs.pending.has_prime.Given as goal

abbrev pub invariant-loop-step : goal.invariant-loop-step
invariant-loop-step l = l.found ≡ has_prime (steps_of (take l.step-index l.items))
