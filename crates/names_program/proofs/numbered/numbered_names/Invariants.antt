use Rattle.std.proofs.Common.{◌≡◌, ◌++◌, drop}
use Rattle.names_program.specs.Names.{numbered, numbers_of}
use Rattle.names_program.specs.Told.{told}
use Rattle.names_program.proofs.numbered.numbered_names.Given as goal

abbrev pub invariant-loop-entry : goal.invariant-loop-entry
invariant-loop-entry l =
    l.found ++ told (numbered (numbers_of l.numbers)) l.names (drop l.entry-index l.entry-items) ≡ told (numbered (numbers_of l.numbers)) l.names l.entry-items
