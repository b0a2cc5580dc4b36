use Rattle.std.proofs.Common.{◌≡◌, None, drop}
use Rattle.reading_trees.specs.Laid.{next_of}
use Rattle.reading_expressions.proofs.refusing.next_fault.Given as goal

abbrev pub invariant-loop-i : goal.invariant-loop-i
invariant-loop-i l = next_of (drop l.i l.laid) None ≡ next_of (drop l.fn.from l.fn.laid) None
