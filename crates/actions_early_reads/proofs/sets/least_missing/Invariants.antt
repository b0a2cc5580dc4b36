use Rattle.std.proofs.Common.{◌≡◌, not}
use Rattle.std.specs.Prelude.{None}
use Rattle.actions_meanings.specs.Outcomes.{least}
use Rattle.actions_early_reads.specs.Sets.{shown}
use Rattle.actions_early_reads.proofs.sets.least_missing.Given as goal

abbrev pub invariant-loop-variable : goal.invariant-loop-variable
invariant-loop-variable l = least l.variable (λ x. not (shown l.set x)) ≡ None
