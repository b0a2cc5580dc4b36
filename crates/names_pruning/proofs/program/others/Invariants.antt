use Rattle.std.proofs.Common.{◌≡◌, ◌++◌, drop, map}
use Rattle.std.specs.Prelude.{not}
use Rattle.names_pruning.proofs.program.others.Given as goal

abbrev pub invariant-loop-is_needed : goal.invariant-loop-is_needed
invariant-loop-is_needed l = l.others.items ++ map not (drop l.is_needed-index l.needed) ≡ map not l.needed
