use Rattle.std.proofs.Common.{◌≡◌, ◌≤◌, ◌+◌, drop}
use Rattle.names_scopes.specs.Scopes.{slots}
use Rattle.names_scopes.proofs.scope.Scope.slots.Given as goal

abbrev pub invariant-loop-local : goal.invariant-loop-local
invariant-loop-local l =
    (l.count + slots (drop l.local-index l.local-items) ≡ slots l.self) × (l.count ≤ l.local-index)
