use Rattle.std.proofs.Common.{◌≡◌, ◌≤◌, drop}
use Rattle.names_scopes.specs.Scopes.{bound, bound_from, later}
use Rattle.names_scopes.proofs.scope.Scope.meaning.Given as goal

abbrev pub invariant-loop-local : goal.invariant-loop-local
invariant-loop-local l =
    (later l.found (bound_from l.slot (drop l.local-index l.local-items) l.name) ≡ bound l.self l.name) × (l.slot ≤ l.local-index)
