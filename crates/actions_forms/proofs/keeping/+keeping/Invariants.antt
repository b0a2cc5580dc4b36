use Rattle.std.proofs.Common.{◌+◌, ◌*◌, drop}
use Rattle.names_term_parts.specs.Weights.{weight, in_terms}
use Rattle.actions_early_reads.specs.Weight.{weights}
use Rattle.actions_early_reads.specs.Ready.{table_of}
use Rattle.actions_early_reads.specs.Sets.{shown}
use Rattle.actions_forms.specs.Endings.{RemembersKept}
use Rattle.actions_forms.proofs.Kept.{KeepingWay}
use Rattle.actions_forms.proofs.keeping.+keeping.Given as goal

abbrev pub decreases-unchanged_in : goal.decreases-unchanged_in
decreases-unchanged_in l = 3 * (weight l.term.now + weights (table_of l.walk.now) l.bound) + 1

abbrev pub decreases-unchanged_name : goal.decreases-unchanged_name
decreases-unchanged_name l = 3 * (weight l.term.now + weights (table_of l.walk.now) l.bound)

abbrev pub decreases-unchanged_term : goal.decreases-unchanged_term
decreases-unchanged_term l = 3 * (weight l.term.now + weights (table_of l.walk.now) l.bound)

abbrev pub decreases-unchanged_all : goal.decreases-unchanged_all
decreases-unchanged_all l = 3 * (in_terms l.terms.now + weights (table_of l.walk.now) l.bound) + 2

abbrev pub invariant-unchanged_all-loop-item : goal.invariant-unchanged_all-loop-item
invariant-unchanged_all-loop-item l = KeepingWay l.walk l.bound (shown l.fn.before) l.at l.terms (shown l.set) (drop l.item-index l.items) × RemembersKept l.walk l.at l.endings
