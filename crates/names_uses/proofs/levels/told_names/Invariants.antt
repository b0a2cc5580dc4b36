use Rattle.std.proofs.Common.{◌≡◌, ◌++◌, drop}
use Rattle.names_uses.specs.ToldLevels.{told_names}
use Rattle.names_uses.proofs.levels.told_names.Given as goal

abbrev pub invariant-loop-entry : goal.invariant-loop-entry
invariant-loop-entry l = l.levels.items ++ told_names (drop l.entry-index l.entry-items) ≡ told_names l.entry-items
