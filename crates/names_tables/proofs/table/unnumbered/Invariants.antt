use Rattle.std.proofs.Common.{◌≡◌, ℕ, length, None}
use Rattle.names_program.specs.Names.{numbers_of}
use Rattle.names_tables.proofs.table.unnumbered.Given as goal

abbrev pub invariant-loop-made : goal.invariant-loop-made
invariant-loop-made l = record {
  count : length l.numbers.items ≡ l.made;
  none : (i : ℕ) → numbers_of l.numbers.items i ≡ None;
}
