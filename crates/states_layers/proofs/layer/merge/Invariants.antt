use Rattle.states_layers.specs.Found.{Merged}
use Rattle.states_layers.proofs.layer.merge.Given as goal

abbrev pub invariant-loop-entry : goal.invariant-loop-entry
invariant-loop-entry g l = Merged l.initial.layer.entries l.yielded l.from l.most l.layer.entries
