use Rattle.std.proofs.Common.{◌≡◌, ◌≤◌, drop}
use Rattle.names_terms.specs.TermSizes.{term_size}
use Rattle.names_terms.specs.TermViews.{terms_from, operands_from, steps_from, bounds_from, fields_from, changes_from, arms_from}
use Rattle.names_term_copies.specs.Rows.{closed_all}
use Rattle.names_term_copies.proofs.copy.+copy.Given as goal

abbrev pub invariant-copy_term-loop-rows : goal.invariant-copy_term-loop-rows
invariant-copy_term-loop-rows l = record { same : closed_all l.rows.items l.rest ≡ l.initial.rest; within : term_size l.rest ≤ term_size l.initial.rest }

abbrev pub invariant-copy_arms-loop-arm : goal.invariant-copy_arms-loop-arm
invariant-copy_arms-loop-arm l = arms_from l.copy (drop l.arm-index l.arm-items) ≡ l.fn.arms

abbrev pub invariant-copy_bounds-loop-bound : goal.invariant-copy_bounds-loop-bound
invariant-copy_bounds-loop-bound l = bounds_from l.copy (drop l.bound-index l.bound-items) ≡ l.fn.bounds

abbrev pub invariant-copy_changes-loop-change : goal.invariant-copy_changes-loop-change
invariant-copy_changes-loop-change l = changes_from l.copy (drop l.change-index l.change-items) ≡ l.fn.changes

abbrev pub invariant-copy_fields-loop-field : goal.invariant-copy_fields-loop-field
invariant-copy_fields-loop-field l = fields_from l.copy (drop l.field-index l.field-items) ≡ l.fn.fields

abbrev pub invariant-copy_operands-loop-operand : goal.invariant-copy_operands-loop-operand
invariant-copy_operands-loop-operand l = operands_from l.copy (drop l.operand-index l.others) ≡ l.fn.operands

abbrev pub invariant-copy_steps-loop-item : goal.invariant-copy_steps-loop-item
invariant-copy_steps-loop-item l = steps_from l.copy (drop l.item-index l.item-items) ≡ l.fn.steps

abbrev pub invariant-copy_terms-loop-term : goal.invariant-copy_terms-loop-term
invariant-copy_terms-loop-term l = terms_from l.copy (drop l.term-index l.term-items) ≡ l.fn.terms
