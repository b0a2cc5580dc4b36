use Rattle.std.proofs.Common.{◌≡◌, take, map, Some}
use Rattle.states_core.proofs.partial.Partial.whole.Given as goal

abbrev pub invariant-loop-place : goal.invariant-loop-place
invariant-loop-place l = map Some l.values.items ≡ take l.place-index l.place-items
