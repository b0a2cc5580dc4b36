use Rattle.std.proofs.Common.{take}
use Rattle.states_tests.specs.Table.{Listed}
use Rattle.states_tests.proofs.layers_tests.listed.Given as goal

abbrev pub invariant-loop-edge : goal.invariant-loop-edge
invariant-loop-edge l = Listed (take l.edge-index l.edges) l.mark l.from l.found.entries
