use Rattle.std.proofs.Common.{◌≡◌, drop}
use Rattle.names_uses.proofs.Declaring.{in_units}
use Rattle.names_uses.proofs.strict.is_declared.Given as goal

abbrev pub invariant-loop-unit : goal.invariant-loop-unit
invariant-loop-unit l = in_units l.name (drop l.unit-index l.unit-items) ≡ in_units l.name l.unit-items
