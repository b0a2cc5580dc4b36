use Rattle.std.proofs.Common.{◌≡◌, ℕ, length}
use Rattle.std.specs.Prelude.{Some, slice_get}
use Rattle.names_term_levels.specs.declared.note.Note.{Note}
use Rattle.names_term_levels.specs.Telling.{IsUntold}
use Rattle.names_term_levels.proofs.telling.all_untold.Given as goal

abbrev pub invariant-loop-made : goal.invariant-loop-made
invariant-loop-made l = record {
  count : length l.notes.items ≡ l.made;
  none : (k : ℕ) (n : Note) → slice_get l.notes.items k ≡ Some n → IsUntold n;
}
