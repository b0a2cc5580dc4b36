-- proofs/twice/first_of/Invariants.antt
use Rattle.std.proofs.Common.{[], take}
use Rattle.reading_modules.specs.Known.{Knows}
use Rattle.reading_modules.specs.Twice.{AreNew}
use Rattle.reading_modules.proofs.twice.first_of.Given as goal

abbrev pub invariant-loop-declared : goal.invariant-loop-declared
invariant-loop-declared l = record {
  knows : Knows l.known (take l.declared-index l.names);
  new_so_far : AreNew l.standard [] (take l.declared-index l.names);
}
