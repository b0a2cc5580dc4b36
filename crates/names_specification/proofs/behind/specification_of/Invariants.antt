use Rattle.std.proofs.Common.{◌≡◌}
use Rattle.names_specification.specs.Behind.{deepest, last_from}
use Rattle.names_specification.proofs.behind.specification_of.Given as goal

abbrev pub invariant-loop-left : goal.invariant-loop-left
invariant-loop-left l = last_from l.left l.program l.config l.last ≡ last_from deepest l.program l.config l.name

abbrev pub decreases-loop-left : goal.decreases-loop-left
decreases-loop-left l = l.left
