-- proofs/meeting/round/Invariants.antt
use Rattle.std.proofs.Common.{◌≡◌, ◌++◌, drop}
use Rattle.reading_modules.proofs.meeting.round.Given as goal

abbrev pub invariant-loop-other : goal.invariant-loop-other
invariant-loop-other l = l.names ++ drop l.other-index l.path ≡ l.path
