use Rattle.names_scopes.proofs.MentionLoops.{DefinesSoFar}
use Rattle.names_scopes.proofs.free_names.defines.Given as goal

abbrev pub invariant-loop-definition : goal.invariant-loop-definition
invariant-loop-definition l = DefinesSoFar l.name l.definition-items l.definition-index
