-- proofs/twice/add_all/Invariants.antt
use Rattle.std.proofs.Common.{◌≡◌, ◌++◌, drop}
use Rattle.reading_modules.proofs.twice.add_all.Given as goal

abbrev pub invariant-loop-declared : goal.invariant-loop-declared
invariant-loop-declared l = l.names ++ drop l.declared-index l.more ≡ l.initial.names ++ l.more
