use Rattle.std.proofs.Common.{◌≡◌, ◌++◌, map, take}
use Rattle.names_term_parts.specs.Parts.{part}
use Rattle.names_term_parts.specs.Waiting.{waiting}
use Rattle.actions_early_reads.proofs.Following.{items_terms}
use Rattle.actions_early_reads.proofs.walking.push_path.Given as goal

abbrev pub invariant-loop-step : goal.invariant-loop-step
invariant-loop-step l = waiting l.stack.items ≡ waiting l.initial.stack.items ++ map (part l.primed) (items_terms (take l.step-index l.steps))
