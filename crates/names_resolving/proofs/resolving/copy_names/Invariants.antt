use Rattle.std.proofs.Common.{◌≡◌, ◌++◌, drop}
use Rattle.names_resolving.proofs.resolving.copy_names.Given as goal

abbrev pub invariant-loop-name : goal.invariant-loop-name
invariant-loop-name l = l.copies ++ drop l.name-index l.name-items ≡ l.names
