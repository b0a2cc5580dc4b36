use Rattle.std.proofs.Common.{◌≡◌, map}
use Rattle.logs_files.proofs.lined.all_steps.Given as goal

abbrev pub invariant-loop-file : goal.invariant-loop-file
invariant-loop-file l = l.lines.items ≡ map (λ f. f.steps) l.yielded
