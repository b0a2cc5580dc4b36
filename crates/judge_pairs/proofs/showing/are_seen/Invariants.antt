use Rattle.std.proofs.Common.{◌<◌, ℕ, get_or}
use Rattle.logs_updates.specs.declared.update.See.{See}
use Rattle.steps_lines_defs.specs.Asks.{IsSeen}
use Rattle.judge_pairs.proofs.showing.are_seen.Given as goal

abbrev pub invariant-loop-see : goal.invariant-loop-see
invariant-loop-see l = (k : ℕ) (d : See) → k < l.see-index → IsSeen l.state (get_or l.sees k d)
