use Rattle.std.proofs.Common.{◌≡◌, ◌++◌, drop}
use Rattle.names_pruning.specs.Told.{told}
use Rattle.names_pruning.proofs.telling.told.Given as goal

abbrev pub invariant-loop-unit : goal.invariant-loop-unit
invariant-loop-unit l = l.found.items ++ told (drop l.unit-index l.unit-items) ≡ told l.unit-items
