use Rattle.std.proofs.Common.{◌≡◌, ◌++◌, drop}
use Rattle.names_program.specs.Standard.{brought_from, standard_names}
use Rattle.names_program.proofs.standard.brought.Given as goal

abbrev pub invariant-loop-index : goal.invariant-loop-index
invariant-loop-index l =
    l.found.items ++ brought_from l.extended (drop l.index standard_names) ≡ brought_from l.extended standard_names
