use Rattle.std.proofs.Common.{length, false}
use Rattle.names_term_levels.specs.Conjuncts.{IsGathering, contribution_of}
use Rattle.names_term_levels.specs.Shape.{rows}
use Rattle.names_term_parts.specs.Parts.{parts_of}
use Rattle.names_term_parts.specs.Weights.{total}
use Rattle.names_term_levels.proofs.gathering.gather.Given as goal

abbrev pub invariant-loop-term : goal.invariant-loop-term
invariant-loop-term l = IsGathering l.table (length l.notes) l.body (rows l.stack.items) (contribution_of l.gathered)

abbrev pub decreases-loop-term : goal.decreases-loop-term
decreases-loop-term l = total (parts_of false (rows l.stack.items))
