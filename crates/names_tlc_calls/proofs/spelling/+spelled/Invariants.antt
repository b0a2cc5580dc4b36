use Rattle.std.proofs.Common.{◌≡◌, ◌++◌, drop}
use Rattle.reading_trees.specs.Trees as tree
use Rattle.names_tlc_calls.proofs.Items.{each_items, operands_items, steps_items, bounds_items, fields_items, changes_items, arms_items, definitions_items, names_defined}
use Rattle.names_tlc_calls.proofs.Rewriting.{Spells}
use Rattle.names_tlc_calls.proofs.spelling.+spelled.Given as goal

abbrev pub invariant-spelled-loop-test : goal.invariant-spelled-loop-test
invariant-spelled-loop-test l = Spells l.initial.bound l.initial.rest l.bound l.rows.items l.rest

abbrev pub invariant-spelled_each-loop-tree : goal.invariant-spelled_each-loop-tree
invariant-spelled_each-loop-tree l =
    (each_items l.initial.bound l.copy (drop l.tree-index l.tree-items) ≡ each_items l.initial.bound tree.NoTrees l.tree-items) × (l.bound ≡ l.initial.bound)

abbrev pub invariant-spelled_steps-loop-item : goal.invariant-spelled_steps-loop-item
invariant-spelled_steps-loop-item l =
    (steps_items l.initial.bound l.copy (drop l.item-index l.item-items) ≡ steps_items l.initial.bound tree.NoSteps l.item-items) × (l.bound ≡ l.initial.bound)

abbrev pub invariant-spelled_bounds-loop-item : goal.invariant-spelled_bounds-loop-item
invariant-spelled_bounds-loop-item l =
    (bounds_items l.initial.bound l.copy (drop l.item-index l.item-items) ≡ bounds_items l.initial.bound tree.NoBounds l.item-items) × (l.bound ≡ l.initial.bound)

abbrev pub invariant-spelled_fields-loop-field : goal.invariant-spelled_fields-loop-field
invariant-spelled_fields-loop-field l =
    (fields_items l.initial.bound l.copy (drop l.field-index l.field-items) ≡ fields_items l.initial.bound tree.NoFields l.field-items) × (l.bound ≡ l.initial.bound)

abbrev pub invariant-spelled_changes-loop-change : goal.invariant-spelled_changes-loop-change
invariant-spelled_changes-loop-change l =
    (changes_items l.initial.bound l.copy (drop l.change-index l.change-items) ≡ changes_items l.initial.bound tree.NoChanges l.change-items) × (l.bound ≡ l.initial.bound)

abbrev pub invariant-spelled_arms-loop-arm : goal.invariant-spelled_arms-loop-arm
invariant-spelled_arms-loop-arm l =
    (arms_items l.initial.bound l.copy (drop l.arm-index l.arm-items) ≡ arms_items l.initial.bound tree.NoArms l.arm-items) × (l.bound ≡ l.initial.bound)

abbrev pub invariant-spelled_operands-loop-operand : goal.invariant-spelled_operands-loop-operand
invariant-spelled_operands-loop-operand l =
    (operands_items l.initial.bound l.copy (drop l.operand-index l.others) ≡ operands_items l.initial.bound l.initial.copy l.others) × (l.bound ≡ l.initial.bound)

abbrev pub invariant-spelled_definitions-loop-definition : goal.invariant-spelled_definitions-loop-definition
invariant-spelled_definitions-loop-definition l =
    (definitions_items l.bound l.copy (drop l.definition-index l.definition-items) ≡ definitions_items l.initial.bound tree.NoDefinitions l.definition-items) × (l.bound ++ names_defined (drop l.definition-index l.definition-items) ≡ l.initial.bound ++ names_defined l.definition-items)
