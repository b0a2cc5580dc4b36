use Rattle.std.proofs.Common.{◌≡◌, ◌++◌, drop}
use Rattle.names_free.proofs.Items.{each_items, operands_items, steps_items, bounds_items, fields_items, changes_items, arms_items, definitions_items, names_defined}
use Rattle.names_free.proofs.Walks.{Walks}
use Rattle.names_free.proofs.walk.+gather.Given as goal

abbrev pub invariant-gather-loop-test : goal.invariant-gather-loop-test
invariant-gather-loop-test l = Walks l.initial.hidden l.initial.found l.initial.tree l.hidden l.found l.tree

abbrev pub invariant-gather_each-loop-tree : goal.invariant-gather_each-loop-tree
invariant-gather_each-loop-tree l =
    (each_items l.initial.hidden l.found (drop l.tree-index l.tree-items) ≡ each_items l.initial.hidden l.initial.found l.tree-items) × (l.hidden ≡ l.initial.hidden)

abbrev pub invariant-gather_operands-loop-operand : goal.invariant-gather_operands-loop-operand
invariant-gather_operands-loop-operand l =
    (operands_items l.initial.hidden l.found (drop l.operand-index l.others) ≡ operands_items l.initial.hidden l.initial.found l.others) × (l.hidden ≡ l.initial.hidden)

abbrev pub invariant-gather_steps-loop-step : goal.invariant-gather_steps-loop-step
invariant-gather_steps-loop-step l =
    (steps_items l.initial.hidden l.found (drop l.step-index l.step-items) ≡ steps_items l.initial.hidden l.initial.found l.step-items) × (l.hidden ≡ l.initial.hidden)

abbrev pub invariant-gather_bounds-loop-bound : goal.invariant-gather_bounds-loop-bound
invariant-gather_bounds-loop-bound l =
    (bounds_items l.initial.hidden l.found (drop l.bound-index l.bound-items) ≡ bounds_items l.initial.hidden l.initial.found l.bound-items) × (l.hidden ≡ l.initial.hidden)

abbrev pub invariant-gather_fields-loop-field : goal.invariant-gather_fields-loop-field
invariant-gather_fields-loop-field l =
    (fields_items l.initial.hidden l.found (drop l.field-index l.field-items) ≡ fields_items l.initial.hidden l.initial.found l.field-items) × (l.hidden ≡ l.initial.hidden)

abbrev pub invariant-gather_changes-loop-change : goal.invariant-gather_changes-loop-change
invariant-gather_changes-loop-change l =
    (changes_items l.initial.hidden l.found (drop l.change-index l.change-items) ≡ changes_items l.initial.hidden l.initial.found l.change-items) × (l.hidden ≡ l.initial.hidden)

abbrev pub invariant-gather_arms-loop-arm : goal.invariant-gather_arms-loop-arm
invariant-gather_arms-loop-arm l =
    (arms_items l.initial.hidden l.found (drop l.arm-index l.arm-items) ≡ arms_items l.initial.hidden l.initial.found l.arm-items) × (l.hidden ≡ l.initial.hidden)

abbrev pub invariant-gather_definitions-loop-definition : goal.invariant-gather_definitions-loop-definition
invariant-gather_definitions-loop-definition l =
    (definitions_items l.hidden l.found (drop l.definition-index l.definition-items) ≡ definitions_items l.initial.hidden l.initial.found l.definition-items) × (l.hidden ++ names_defined (drop l.definition-index l.definition-items) ≡ l.initial.hidden ++ names_defined l.definition-items)
