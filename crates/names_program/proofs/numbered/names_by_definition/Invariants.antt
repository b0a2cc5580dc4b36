use Rattle.std.proofs.Common.{◌≡◌, ◌++◌, drop, length}
use Rattle.std.specs.Prelude.{ℕ, [], get_or}
use Rattle.names_program.specs.Names.{only_definition}
use Rattle.names_program.specs.Told.{told}
use Rattle.names_program.proofs.numbered.names_by_definition.Given as goal

abbrev pub invariant-loop-entry : goal.invariant-loop-entry
invariant-loop-entry l =
    (length l.lists.items ≡ l.count)
    × ((i : ℕ) → get_or l.lists.items i [] ++ told (only_definition i) l.names (drop l.entry-index l.entry-items) ≡ told (only_definition i) l.names l.entry-items)
