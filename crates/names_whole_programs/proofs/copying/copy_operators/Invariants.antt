use Rattle.std.proofs.Common.{◌≡◌, ◌++◌, drop}
use Rattle.names_whole_programs.proofs.copying.copy_operators.Given as goal

abbrev pub invariant-loop-operator : goal.invariant-loop-operator
invariant-loop-operator l =
    l.copy ++ drop l.operator-index l.operator-items ≡ l.operator-items
