use Rattle.std.proofs.Common.{◌≡◌, take}
use Rattle.names_term_parts.specs.Slots.{UsesSmaller}
use Rattle.names_tables.proofs.Placeholders.{marks_of}
use Rattle.names_tables.proofs.fault.placeholders.Given as goal

abbrev pub invariant-loop-above : goal.invariant-loop-above
invariant-loop-above l = record {
  smaller : UsesSmaller l.table;
  levels : marks_of l.table ≡ take l.above-index l.levels;
}
