use Rattle.std.proofs.Common.{◌≡◌, ◌++◌, drop}
use Rattle.names_program.specs.Told.{defined_by}
use Rattle.names_program.proofs.numbered.add_for.Given as goal

abbrev pub invariant-loop-entry : goal.invariant-loop-entry
invariant-loop-entry l =
    l.names ++ defined_by l.number (drop l.entry-index l.entry-items) ≡ l.initial.names ++ defined_by l.number l.entry-items
