use Rattle.std.proofs.Common.{◌≡◌, length}
use Rattle.names_term_levels.specs.Telling.{AreSound, left_to_tell}
use Rattle.names_term_levels.proofs.noting.notes.Given as goal

abbrev pub invariant-loop-notes : goal.invariant-loop-notes
invariant-loop-notes l = record {
  all : length l.notes.items ≡ length l.table;
  sound : AreSound l.table l.notes.items;
}

abbrev pub decreases-loop-notes : goal.decreases-loop-notes
decreases-loop-notes l = left_to_tell l.table l.notes.items
