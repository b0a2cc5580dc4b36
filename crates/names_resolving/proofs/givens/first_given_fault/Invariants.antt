use Rattle.std.proofs.Common.{◌≡◌, drop}
use Rattle.names_program.specs.Names.{numbers_of}
use Rattle.names_resolving.specs.Givens.{first_given_fault}
use Rattle.names_resolving.proofs.givens.first_given_fault.Given as goal

abbrev pub invariant-loop-given : goal.invariant-loop-given
invariant-loop-given l =
    first_given_fault l.program (numbers_of l.table.numbers.items) l.table.operators (drop l.given-index l.givens)
    ≡ first_given_fault l.program (numbers_of l.table.numbers.items) l.table.operators l.givens
