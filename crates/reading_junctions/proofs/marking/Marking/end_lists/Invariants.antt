use Rattle.std.proofs.Common.{length}
use Rattle.reading_junctions.proofs.Steps.{Closed}
use Rattle.reading_junctions.proofs.marking.Marking.end_lists.Given as goal

abbrev pub invariant-loop-self : goal.invariant-loop-self
invariant-loop-self l = Closed l.fn.self l.self l.token

abbrev pub decreases-loop-self : goal.decreases-loop-self
decreases-loop-self l = length l.self.stack
