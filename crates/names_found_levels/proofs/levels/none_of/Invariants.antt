use Rattle.std.proofs.Common.{◌≡◌}
use Rattle.std.specs.Prelude.{false, replicate}
use Rattle.names_found_levels.proofs.levels.none_of.Given as goal

abbrev pub invariant-loop : goal.invariant-loop
invariant-loop l = l.marks.items ≡ replicate l.counter false
