use Rattle.std.proofs.Common.{◌≡◌, ◌++◌, drop}
use Rattle.names_pruning.specs.Needed.{names_replaced}
use Rattle.names_pruning.proofs.roots.add_replaced.Given as goal

abbrev pub invariant-loop-given : goal.invariant-loop-given
invariant-loop-given l = l.found ++ names_replaced (drop l.given-index l.givens) ≡ l.initial.found ++ names_replaced l.givens
