use Rattle.std.proofs.Common.{◌≡◌, map, take}
use Rattle.values_operations.specs.Changes.{replaced}
use Rattle.values_operations.proofs.functions.replace.Given as goal

abbrev pub invariant-loop-i : goal.invariant-loop-i
invariant-loop-i l = (l.pairs.items ≡ l.initial.pairs.items) × (map (replaced l.key l.new) (take l.i l.pairs.items) ≡ take l.i l.pairs.items)
