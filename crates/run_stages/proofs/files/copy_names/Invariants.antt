use Rattle.std.proofs.Common.{◌≡◌, ◌++◌, drop}
use Rattle.run_stages.proofs.files.copy_names.Given as goal

abbrev pub invariant-loop-name : goal.invariant-loop-name
invariant-loop-name l = l.all ++ drop l.name-index l.name-items ≡ l.names
