use Rattle.names_scopes.proofs.LevelLoops.{TermsSoFar}
use Rattle.names_scopes.proofs.levels.of_terms.Given as goal

abbrev pub invariant-loop-term : goal.invariant-loop-term
invariant-loop-term l = TermsSoFar l.items l.term-index l.level
