use Rattle.std.proofs.Common.{take}
use Rattle.steps_filling.specs.Fillings.{AreFilled}
use Rattle.steps_filling.proofs.choosing.fill_each.Given as goal

abbrev pub invariant-loop-value : goal.invariant-loop-value
invariant-loop-value l = AreFilled l.sees l.number.0 (take l.value-index l.values) l.places l.found.items
