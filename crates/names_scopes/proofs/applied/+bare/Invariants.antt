use Rattle.names_scopes.proofs.BareLoops.{EachSoFar, StepsSoFar, BoundsSoFar, FieldsSoFar, ChangesSoFar, ArmsSoFar, DefinitionsSoFar, OthersSoFar, Reaches}
use Rattle.names_scopes.proofs.applied.+bare.Given as goal

abbrev pub invariant-bare-loop-tree : goal.invariant-bare-loop-tree
invariant-bare-loop-tree l = Reaches l.name l.initial.tree l.tree

abbrev pub invariant-bare_arms-loop-arm : goal.invariant-bare_arms-loop-arm
invariant-bare_arms-loop-arm l = ArmsSoFar l.name l.arm-items l.arm-index

abbrev pub invariant-bare_bounds-loop-bound : goal.invariant-bare_bounds-loop-bound
invariant-bare_bounds-loop-bound l = BoundsSoFar l.name l.bound-items l.bound-index

abbrev pub invariant-bare_changes-loop-change : goal.invariant-bare_changes-loop-change
invariant-bare_changes-loop-change l = ChangesSoFar l.name l.change-items l.change-index

abbrev pub invariant-bare_definitions-loop-definition : goal.invariant-bare_definitions-loop-definition
invariant-bare_definitions-loop-definition l = DefinitionsSoFar l.name l.definition-items l.definition-index

abbrev pub invariant-bare_each-loop-tree : goal.invariant-bare_each-loop-tree
invariant-bare_each-loop-tree l = EachSoFar l.name l.tree-items l.tree-index

abbrev pub invariant-bare_fields-loop-field : goal.invariant-bare_fields-loop-field
invariant-bare_fields-loop-field l = FieldsSoFar l.name l.field-items l.field-index

abbrev pub invariant-bare_steps-loop-step : goal.invariant-bare_steps-loop-step
invariant-bare_steps-loop-step l = StepsSoFar l.name l.step-items l.step-index

abbrev pub invariant-bare_others-loop-operand : goal.invariant-bare_others-loop-operand
invariant-bare_others-loop-operand l = OthersSoFar l.name l.operand-items l.operand-index
