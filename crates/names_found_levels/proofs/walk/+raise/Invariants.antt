use Rattle.std.proofs.Common.{◌≡◌, drop}
use Rattle.names_found_levels.proofs.Items.{each_items, operands_items, steps_items, bounds_items, fields_items, changes_items, arms_items}
use Rattle.names_found_levels.proofs.Defining.{definitions_items}
use Rattle.names_least_levels.specs.Levels.{names_rise}
use Rattle.names_found_levels.proofs.Walks.{Walks}
use Rattle.names_found_levels.proofs.walk.+raise.Given as goal

abbrev pub invariant-raise-loop-test : goal.invariant-raise-loop-test
invariant-raise-loop-test l = Walks (names_rise l.names l.marks) l.initial.around l.initial.found l.initial.tree l.around l.found l.tree

abbrev pub invariant-raise_each-loop-tree : goal.invariant-raise_each-loop-tree
invariant-raise_each-loop-tree l =
    (each_items (names_rise l.names l.marks) l.initial.around l.found (drop l.tree-index l.tree-items) ≡ each_items (names_rise l.names l.marks) l.initial.around l.initial.found l.tree-items) × (l.around ≡ l.initial.around)

abbrev pub invariant-raise_operands-loop-operand : goal.invariant-raise_operands-loop-operand
invariant-raise_operands-loop-operand l =
    (operands_items (names_rise l.names l.marks) l.initial.around l.found (drop l.operand-index l.others) ≡ operands_items (names_rise l.names l.marks) l.initial.around l.initial.found l.others) × (l.around ≡ l.initial.around)

abbrev pub invariant-raise_steps-loop-step : goal.invariant-raise_steps-loop-step
invariant-raise_steps-loop-step l =
    (steps_items (names_rise l.names l.marks) l.initial.around l.found (drop l.step-index l.step-items) ≡ steps_items (names_rise l.names l.marks) l.initial.around l.initial.found l.step-items) × (l.around ≡ l.initial.around)

abbrev pub invariant-raise_bounds-loop-bound : goal.invariant-raise_bounds-loop-bound
invariant-raise_bounds-loop-bound l =
    (bounds_items (names_rise l.names l.marks) l.initial.around l.found (drop l.bound-index l.bound-items) ≡ bounds_items (names_rise l.names l.marks) l.initial.around l.initial.found l.bound-items) × (l.around ≡ l.initial.around)

abbrev pub invariant-raise_fields-loop-field : goal.invariant-raise_fields-loop-field
invariant-raise_fields-loop-field l =
    (fields_items (names_rise l.names l.marks) l.initial.around l.found (drop l.field-index l.field-items) ≡ fields_items (names_rise l.names l.marks) l.initial.around l.initial.found l.field-items) × (l.around ≡ l.initial.around)

abbrev pub invariant-raise_changes-loop-change : goal.invariant-raise_changes-loop-change
invariant-raise_changes-loop-change l =
    (changes_items (names_rise l.names l.marks) l.initial.around l.found (drop l.change-index l.change-items) ≡ changes_items (names_rise l.names l.marks) l.initial.around l.initial.found l.change-items) × (l.around ≡ l.initial.around)

abbrev pub invariant-raise_arms-loop-arm : goal.invariant-raise_arms-loop-arm
invariant-raise_arms-loop-arm l =
    (arms_items (names_rise l.names l.marks) l.initial.around l.found (drop l.arm-index l.arm-items) ≡ arms_items (names_rise l.names l.marks) l.initial.around l.initial.found l.arm-items) × (l.around ≡ l.initial.around)

abbrev pub invariant-define-loop-definition : goal.invariant-define-loop-definition
invariant-define-loop-definition l = definitions_items (names_rise l.names l.marks) l.around (drop l.definition-index l.definition-items) ≡ definitions_items (names_rise l.names l.marks) l.initial.around l.definition-items
