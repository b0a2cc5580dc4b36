-- Whether an infix operator goes out over a frame.
use Rattle.std.specs.Prelude.{Bool, false}
use Rattle.reading_trees.specs.declared.operators.InfixOperator.{InfixOperator}
use Rattle.reading_trees.specs.Precedence.{prefix_range, infix_range}
use Rattle.reading_machine.specs.Machine.{above}
use Rattle.reading_machine.specs.declared.frame.Frame.{Frame}
use Rattle.reading_machine.specs.declared.frame.Frame.TheVariants as frame

abbrev pub passes : InfixOperator → Frame → Bool
passes q (frame.Prefix o p) = above (prefix_range o) (infix_range q)
passes q (frame.Infix o es p) = above (infix_range o) (infix_range q)
passes q _ = false
