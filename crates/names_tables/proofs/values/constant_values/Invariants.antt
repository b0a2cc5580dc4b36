use Rattle.std.proofs.Common.{◌≡◌, length}
use Rattle.names_program.specs.InUnits.{constants_in}
use Rattle.names_tables.proofs.Valued.{GivenSoFar}
use Rattle.names_tables.proofs.values.constant_values.Given as goal

abbrev pub invariant-loop-constant : goal.invariant-loop-constant
invariant-loop-constant l = record {
  count : length l.values.items ≡ l.constant-index;
  given : GivenSoFar l.config.givens (constants_in l.program.units) l.values.items;
}
