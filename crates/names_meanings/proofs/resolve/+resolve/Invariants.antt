use Rattle.names_meanings.specs.Pendings.{Opens}
use Rattle.names_meanings.proofs.ListReads.{EachRead, StepsRead, BoundsRead, FieldsRead, ChangesRead, ArmsRead, OthersRead}
use Rattle.names_meanings.proofs.Defining.{DefinitionsRead}
use Rattle.names_meanings.proofs.resolve.+resolve.Given as goal

abbrev pub invariant-open-loop-rows : goal.invariant-open-loop-rows
invariant-open-loop-rows l = Opens l.initial.walk l.walk l.rows.items l.initial.rest l.rest

abbrev pub invariant-resolve_arms-loop-tree : goal.invariant-resolve_arms-loop-tree
invariant-resolve_arms-loop-tree l = ArmsRead l.initial.walk l.walk l.tree-items l.tree-index l.arms

abbrev pub invariant-resolve_bounds-loop-tree : goal.invariant-resolve_bounds-loop-tree
invariant-resolve_bounds-loop-tree l = BoundsRead l.initial.walk l.walk l.tree-items l.tree-index l.bounds

abbrev pub invariant-resolve_changes-loop-tree : goal.invariant-resolve_changes-loop-tree
invariant-resolve_changes-loop-tree l = ChangesRead l.initial.walk l.walk l.tree-items l.tree-index l.changes

abbrev pub invariant-resolve_definitions-loop-tree : goal.invariant-resolve_definitions-loop-tree
invariant-resolve_definitions-loop-tree l = DefinitionsRead l.initial.walk l.walk l.tree-items l.tree-index l.numbers

abbrev pub invariant-resolve_each-loop-tree : goal.invariant-resolve_each-loop-tree
invariant-resolve_each-loop-tree l = EachRead l.initial.walk l.walk l.tree-items l.tree-index l.terms

abbrev pub invariant-resolve_fields-loop-tree : goal.invariant-resolve_fields-loop-tree
invariant-resolve_fields-loop-tree l = FieldsRead l.initial.walk l.walk l.tree-items l.tree-index l.fields

abbrev pub invariant-resolve_steps-loop-tree : goal.invariant-resolve_steps-loop-tree
invariant-resolve_steps-loop-tree l = StepsRead l.initial.walk l.walk l.tree-items l.tree-index l.steps

abbrev pub invariant-resolve_others-loop-tree : goal.invariant-resolve_others-loop-tree
invariant-resolve_others-loop-tree l = OthersRead l.initial.walk l.walk l.tree-items l.tree-index l.initial.operands l.operands
