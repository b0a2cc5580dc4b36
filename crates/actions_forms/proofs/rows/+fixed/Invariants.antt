use Rattle.std.proofs.Common.{◌+◌, ◌*◌, ◌≤◌, drop, map}
use Rattle.names_terms.specs.TermViews.{arm_item}
use Rattle.names_term_parts.specs.Weights.{weight, in_terms, in_arms}
use Rattle.actions_early_reads.specs.Weight.{weights}
use Rattle.actions_early_reads.specs.Ready.{table_of}
use Rattle.actions_early_reads.specs.Sets.{shown}
use Rattle.actions_forms.specs.Endings.{Remembers}
use Rattle.actions_forms.proofs.Ordering.{OrderWay}
use Rattle.actions_forms.proofs.Armed.{ArmsWay}
use Rattle.actions_forms.proofs.Cased.{CaseWay}
use Rattle.actions_forms.proofs.Forked.{BranchWay}
use Rattle.actions_forms.proofs.rows.+fixed.Given as goal

abbrev pub decreases-fixed_in : goal.decreases-fixed_in
decreases-fixed_in l = 4 * (weight l.term.now + weights (table_of l.walk.now) l.bound)

abbrev pub decreases-in_order : goal.decreases-in_order
decreases-in_order l = 4 * (in_terms l.terms.now + weights (table_of l.walk.now) l.bound) + 1

abbrev pub decreases-one_of : goal.decreases-one_of
decreases-one_of l = 4 * (in_terms l.terms.now + weights (table_of l.walk.now) l.bound) + 2

abbrev pub decreases-arms_of : goal.decreases-arms_of
decreases-arms_of l = 4 * (in_terms l.terms.now + weights (table_of l.walk.now) l.bound) + 1

abbrev pub decreases-exists : goal.decreases-exists
decreases-exists l = 4 * (weight l.body.now + weights (table_of l.walk.now) l.bound) + 1

abbrev pub decreases-conditional : goal.decreases-conditional
decreases-conditional l = 4 * (weight l.test.now + (weight l.then.now + weight l.other.now) + weights (table_of l.walk.now) l.bound) + 2

abbrev pub decreases-last_arm : goal.decreases-last_arm
decreases-last_arm l = 4 * (weight l.last.now + weights (table_of l.walk.now) l.bound) + 1

abbrev pub decreases-fork : goal.decreases-fork
decreases-fork l = 4 * (weight l.then.now + weights (table_of l.walk.now) l.bound) + 1

abbrev pub decreases-case : goal.decreases-case
decreases-case l = 4 * (in_arms l.arms.now + weights (table_of l.walk.now) l.bound) + 2

abbrev pub decreases-case_other : goal.decreases-case_other
decreases-case_other l = 4 * (in_arms l.arms.now + weight l.other.now + weights (table_of l.walk.now) l.bound) + 2

abbrev pub decreases-case_arms : goal.decreases-case_arms
decreases-case_arms l = 4 * (in_arms l.arms.now + weights (table_of l.walk.now) l.bound) + 1

abbrev pub decreases-call : goal.decreases-call
decreases-call l = 4 * (in_terms l.terms.now + weights (table_of l.walk.now) l.bound) + 3

abbrev pub decreases-body : goal.decreases-body
decreases-body l = 4 * weights (table_of l.walk.now) l.bound + 2

abbrev pub decreases-unknown_body : goal.decreases-unknown_body
decreases-unknown_body l = 4 * weights (table_of l.walk.now) l.bound + 1

abbrev pub decreases-box_action : goal.decreases-box_action
decreases-box_action l = 4 * (weight l.action.now + weight l.subscript.now + weights (table_of l.walk.now) l.bound) + 1

abbrev pub decreases-angle_action : goal.decreases-angle_action
decreases-angle_action l = 4 * (weight l.action.now + weight l.subscript.now + weights (table_of l.walk.now) l.bound) + 1

abbrev pub invariant-in_order-loop-item : goal.invariant-in_order-loop-item
invariant-in_order-loop-item l = OrderWay l.walk l.bound (shown l.fn.before) l.terms (shown l.set) (drop l.item-index l.items) × Remembers l.walk l.endings

abbrev pub invariant-arms_of-loop-item : goal.invariant-arms_of-loop-item
invariant-arms_of-loop-item l = ArmsWay l.walk l.bound (shown l.before) l.terms l.arms.items (drop l.item-index l.items) × Remembers l.walk l.endings

abbrev pub invariant-case_arms-loop-arm : goal.invariant-case_arms-loop-arm
invariant-case_arms-loop-arm l = CaseWay l.walk l.bound (shown l.before) l.arms l.ended.items (map arm_item (drop l.arm-index l.items)) × Remembers l.walk l.endings

abbrev pub invariant-conditional-loop-inner : goal.invariant-conditional-loop-inner
invariant-conditional-loop-inner l = BranchWay l.walk l.bound (shown l.before) l.test l.then l.other l.forks.items l.last × (weight l.last ≤ weight l.other) × Remembers l.walk l.endings

abbrev pub decreases-conditional-loop-inner : goal.decreases-conditional-loop-inner
decreases-conditional-loop-inner l = weight l.last
