use Rattle.std.proofs.Common.{◌≡◌, drop}
use Rattle.names_scopes.specs.Standing.{AddsSlots}
use Rattle.names_scopes.specs.Scopes.{bind}
use Rattle.names_scopes.proofs.scope.Scope.bind.Given as goal

abbrev pub invariant-loop-name : goal.invariant-loop-name
invariant-loop-name l = (bind l.self (drop l.name-index l.names) ≡ bind l.initial.self l.names) × AddsSlots l.initial.self l.self
