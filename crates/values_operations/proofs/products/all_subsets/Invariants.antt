use Rattle.values_operations.specs.Choices.{AreNumbered}
use Rattle.values_operations.specs.Subsets.{IsSubsetOf}
use Rattle.values_operations.proofs.products.all_subsets.Given as goal

abbrev pub invariant-loop-number : goal.invariant-loop-number
invariant-loop-number l = AreNumbered (IsSubsetOf l.members) l.number l.subsets.items
