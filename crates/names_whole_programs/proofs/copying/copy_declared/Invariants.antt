use Rattle.std.proofs.Common.{◌≡◌, ◌++◌, drop}
use Rattle.names_whole_programs.proofs.copying.copy_declared.Given as goal

abbrev pub invariant-loop-declared : goal.invariant-loop-declared
invariant-loop-declared l =
    l.copy ++ drop l.declared-index l.declared-items ≡ l.declared-items
