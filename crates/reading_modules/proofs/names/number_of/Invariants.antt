-- proofs/names/number_of/Invariants.antt
use Rattle.std.proofs.Common.{◌≡◌, ◌+◌, drop}
use Rattle.reading_modules.specs.Flattened.{number_of}
use Rattle.reading_modules.proofs.names.number_of.Given as goal

abbrev pub invariant-loop-i : goal.invariant-loop-i
invariant-loop-i l = number_of l.name l.names ≡ l.i + number_of l.name (drop l.i l.names)
