use Rattle.names_scopes.proofs.MentionLoops.{BindsSoFar}
use Rattle.names_scopes.proofs.free_names.binds.Given as goal

abbrev pub invariant-loop-bound : goal.invariant-loop-bound
invariant-loop-bound l = BindsSoFar l.name l.bound-items l.bound-index
