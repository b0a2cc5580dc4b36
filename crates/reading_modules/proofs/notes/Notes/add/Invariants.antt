-- proofs/notes/Notes/add/Invariants.antt
use Rattle.std.proofs.Common.{◌≡◌, ◌++◌}
use Rattle.reading_modules.specs.Flattened.{noted}
use Rattle.reading_modules.proofs.notes.Notes.add.Given as goal

abbrev pub invariant-loop-note : goal.invariant-loop-note
invariant-loop-note g l = l.self-inside.items.items ≡ l.fn.self ++ noted l.file l.yielded
