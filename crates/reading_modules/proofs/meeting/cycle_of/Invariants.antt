-- proofs/meeting/cycle_of/Invariants.antt
use Rattle.std.proofs.Common.{◌≡◌, drop}
use Rattle.reading_modules.specs.Standard.{is_among}
use Rattle.reading_modules.proofs.meeting.cycle_of.Given as goal

abbrev pub invariant-loop-i : goal.invariant-loop-i
invariant-loop-i l = is_among l.name (drop l.i l.path) ≡ is_among l.name l.path
