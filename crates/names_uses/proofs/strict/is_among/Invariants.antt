use Rattle.std.proofs.Common.{◌≡◌, drop}
use Rattle.names_uses.proofs.Declaring.{in_operators}
use Rattle.names_uses.proofs.strict.is_among.Given as goal

abbrev pub invariant-loop-operator : goal.invariant-loop-operator
invariant-loop-operator l = in_operators l.name (drop l.operator-index l.operator-items) ≡ in_operators l.name l.operator-items
