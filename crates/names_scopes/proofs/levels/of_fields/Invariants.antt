use Rattle.names_scopes.proofs.LevelLoops.{FieldsSoFar}
use Rattle.names_scopes.proofs.levels.of_fields.Given as goal

abbrev pub invariant-loop-field : goal.invariant-loop-field
invariant-loop-field l = FieldsSoFar l.items l.field-index l.level
