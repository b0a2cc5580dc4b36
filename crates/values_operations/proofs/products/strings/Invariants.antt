use Rattle.std.proofs.Common.{◌≡◌, map, take}
use Rattle.values_core.specs.Data.{string}
use Rattle.values_operations.proofs.products.strings.Given as goal

abbrev pub invariant-loop-name : goal.invariant-loop-name
invariant-loop-name l = l.keys.items ≡ map string (take l.name-index l.names)
