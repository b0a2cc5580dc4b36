use Rattle.std.proofs.Common.{◌≡◌, ◌++◌, drop}
use Rattle.names_specification.proofs.copies.copy_givens.Given as goal

abbrev pub invariant-loop-given : goal.invariant-loop-given
invariant-loop-given l = l.copy ++ drop l.given-index l.given-items ≡ l.given-items
