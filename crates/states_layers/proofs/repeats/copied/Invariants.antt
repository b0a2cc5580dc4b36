use Rattle.std.proofs.Common.{◌≡◌, take}
use Rattle.states_layers.proofs.repeats.copied.Given as goal

abbrev pub invariant-loop-entry : goal.invariant-loop-entry
invariant-loop-entry g l = l.copies.items ≡ take l.entry-index l.entry-items
