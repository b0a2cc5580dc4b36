use Rattle.std.proofs.Common.{◌≡◌, ◌++◌, drop}
use Rattle.reading_trees.specs.Trees as tree
use Rattle.names_instances.specs.Renamed.{renamed}
use Rattle.names_instances.proofs.Items.{each_items, operands_items, steps_items, bounds_items, fields_items, changes_items, arms_items, definitions_items, names_defined}
use Rattle.names_instances.proofs.Rewriting.{Makes}
use Rattle.names_instances.proofs.making.+made.Given as goal

abbrev pub invariant-made-loop-test : goal.invariant-made-loop-test
invariant-made-loop-test l = Makes (renamed l.fn.renaming) l.initial.bound l.initial.rest l.bound l.rows.items l.rest

abbrev pub invariant-made_each-loop-tree : goal.invariant-made_each-loop-tree
invariant-made_each-loop-tree l =
    (each_items (renamed l.fn.renaming) l.initial.bound l.copy (drop l.tree-index l.tree-items) ≡ each_items (renamed l.fn.renaming) l.initial.bound tree.NoTrees l.tree-items) × (l.bound ≡ l.initial.bound)

abbrev pub invariant-made_steps-loop-item : goal.invariant-made_steps-loop-item
invariant-made_steps-loop-item l =
    (steps_items (renamed l.fn.renaming) l.initial.bound l.copy (drop l.item-index l.item-items) ≡ steps_items (renamed l.fn.renaming) l.initial.bound tree.NoSteps l.item-items) × (l.bound ≡ l.initial.bound)

abbrev pub invariant-made_bounds-loop-item : goal.invariant-made_bounds-loop-item
invariant-made_bounds-loop-item l =
    (bounds_items (renamed l.fn.renaming) l.initial.bound l.copy (drop l.item-index l.item-items) ≡ bounds_items (renamed l.fn.renaming) l.initial.bound tree.NoBounds l.item-items) × (l.bound ≡ l.initial.bound)

abbrev pub invariant-made_fields-loop-field : goal.invariant-made_fields-loop-field
invariant-made_fields-loop-field l =
    (fields_items (renamed l.fn.renaming) l.initial.bound l.copy (drop l.field-index l.field-items) ≡ fields_items (renamed l.fn.renaming) l.initial.bound tree.NoFields l.field-items) × (l.bound ≡ l.initial.bound)

abbrev pub invariant-made_changes-loop-change : goal.invariant-made_changes-loop-change
invariant-made_changes-loop-change l =
    (changes_items (renamed l.fn.renaming) l.initial.bound l.copy (drop l.change-index l.change-items) ≡ changes_items (renamed l.fn.renaming) l.initial.bound tree.NoChanges l.change-items) × (l.bound ≡ l.initial.bound)

abbrev pub invariant-made_arms-loop-arm : goal.invariant-made_arms-loop-arm
invariant-made_arms-loop-arm l =
    (arms_items (renamed l.fn.renaming) l.initial.bound l.copy (drop l.arm-index l.arm-items) ≡ arms_items (renamed l.fn.renaming) l.initial.bound tree.NoArms l.arm-items) × (l.bound ≡ l.initial.bound)

abbrev pub invariant-made_operands-loop-operand : goal.invariant-made_operands-loop-operand
invariant-made_operands-loop-operand l =
    (operands_items (renamed l.fn.renaming) l.initial.bound l.copy (drop l.operand-index l.others) ≡ operands_items (renamed l.fn.renaming) l.initial.bound l.initial.copy l.others) × (l.bound ≡ l.initial.bound)

abbrev pub invariant-made_definitions-loop-definition : goal.invariant-made_definitions-loop-definition
invariant-made_definitions-loop-definition l =
    (definitions_items (renamed l.fn.renaming) l.bound l.copy (drop l.definition-index l.definition-items) ≡ definitions_items (renamed l.fn.renaming) l.initial.bound tree.NoDefinitions l.definition-items) × (l.bound ++ names_defined (drop l.definition-index l.definition-items) ≡ l.initial.bound ++ names_defined l.definition-items)
