use Rattle.std.proofs.Common.{◌≤◌, length}
use Rattle.steps_cut_source.specs.Spoken.{AreListed}
use Rattle.steps_cut_source.proofs.listing.ready_steps.Given as goal

abbrev pub invariant-loop-file : goal.invariant-loop-file
invariant-loop-file l = AreListed l.steps l.from l.file l.made.items × (length l.made.items ≤ l.bound)
