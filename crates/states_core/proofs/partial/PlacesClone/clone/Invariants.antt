use Rattle.std.proofs.Common.{◌≡◌, take}
use Rattle.states_core.proofs.partial.PlacesClone.clone.Given as goal

abbrev pub invariant-loop-place : goal.invariant-loop-place
invariant-loop-place l = l.items.items ≡ take l.place-index l.place-items
