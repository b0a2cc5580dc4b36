use Rattle.names_scopes.proofs.MentionLoops.{EachSoFar, StepsSoFar, BoundsSoFar, FieldsSoFar, ChangesSoFar, ArmsSoFar, DefinitionsSoFar, OthersSoFar, Reaches}
use Rattle.names_scopes.proofs.free_names.+mentions.Given as goal

abbrev pub invariant-mentions-loop-tree : goal.invariant-mentions-loop-tree
invariant-mentions-loop-tree l = Reaches l.name l.initial.tree l.tree

abbrev pub invariant-mentions_arms-loop-arm : goal.invariant-mentions_arms-loop-arm
invariant-mentions_arms-loop-arm l = ArmsSoFar l.name l.arm-items l.arm-index

abbrev pub invariant-mentions_bounds-loop-bound : goal.invariant-mentions_bounds-loop-bound
invariant-mentions_bounds-loop-bound l = BoundsSoFar l.name l.bound-items l.bound-index

abbrev pub invariant-mentions_changes-loop-change : goal.invariant-mentions_changes-loop-change
invariant-mentions_changes-loop-change l = ChangesSoFar l.name l.change-items l.change-index

abbrev pub invariant-mentions_definitions-loop-definition : goal.invariant-mentions_definitions-loop-definition
invariant-mentions_definitions-loop-definition l = DefinitionsSoFar l.name l.definition-items l.definition-index

abbrev pub invariant-mentions_each-loop-tree : goal.invariant-mentions_each-loop-tree
invariant-mentions_each-loop-tree l = EachSoFar l.name l.tree-items l.tree-index

abbrev pub invariant-mentions_fields-loop-field : goal.invariant-mentions_fields-loop-field
invariant-mentions_fields-loop-field l = FieldsSoFar l.name l.field-items l.field-index

abbrev pub invariant-mentions_steps-loop-step : goal.invariant-mentions_steps-loop-step
invariant-mentions_steps-loop-step l = StepsSoFar l.name l.step-items l.step-index

abbrev pub invariant-mentions_others-loop-operand : goal.invariant-mentions_others-loop-operand
invariant-mentions_others-loop-operand l = OthersSoFar l.name l.operand-items l.operand-index
