use Rattle.names_scopes.proofs.ScopeLemmas.{BoundSoFar}
use Rattle.names_scopes.proofs.scope.Scope.bind_bounds.Given as goal

abbrev pub invariant-loop-bound : goal.invariant-loop-bound
invariant-loop-bound l = BoundSoFar l.initial.self l.self l.bound-items l.bound-index
