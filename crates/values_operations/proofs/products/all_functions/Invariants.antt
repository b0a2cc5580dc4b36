use Rattle.values_operations.specs.Choices.{AreNumbered, IsChoiceOf}
use Rattle.values_operations.specs.PartList.{part_list}
use Rattle.values_operations.proofs.products.all_functions.Given as goal

abbrev pub invariant-loop-number : goal.invariant-loop-number
invariant-loop-number l = AreNumbered (IsChoiceOf l.keys (part_list l.parts)) l.number l.functions.items
