use Rattle.std.proofs.Common.{◌≡◌, take, map, Some}
use Rattle.states_core.proofs.partial.Partial.of.Given as goal

abbrev pub invariant-loop-value : goal.invariant-loop-value
invariant-loop-value l = l.places.items ≡ map Some (take l.value-index l.value-items)
