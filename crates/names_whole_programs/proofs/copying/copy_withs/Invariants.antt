use Rattle.std.proofs.Common.{◌≡◌, ◌++◌, drop}
use Rattle.names_whole_programs.proofs.copying.copy_withs.Given as goal

abbrev pub invariant-loop-with : goal.invariant-loop-with
invariant-loop-with l =
    l.copy ++ drop l.with-index l.with-items ≡ l.with-items
