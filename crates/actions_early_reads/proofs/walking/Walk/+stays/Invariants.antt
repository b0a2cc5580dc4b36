use Rattle.std.proofs.Common.{◌+◌, ◌*◌, drop}
use Rattle.names_term_parts.specs.Weights.{weight, in_terms}
use Rattle.actions_early_reads.specs.Weight.{weights}
use Rattle.actions_early_reads.specs.Ready.{table_of}
use Rattle.actions_early_reads.specs.Sets.{shown}
use Rattle.actions_early_reads.proofs.Staying.{ItemsWay}
use Rattle.actions_early_reads.proofs.walking.Walk.+stays.Given as goal

abbrev pub decreases-stays : goal.decreases-stays
decreases-stays l = 2 * (weight l.term.now + weights (table_of l.self.now) l.bound)

abbrev pub decreases-stays_all : goal.decreases-stays_all
decreases-stays_all l = 2 * (in_terms l.terms.now + weights (table_of l.self.now) l.bound) + 1

abbrev pub invariant-stays_all-loop-item : goal.invariant-stays_all-loop-item
invariant-stays_all-loop-item l = ItemsWay l.self l.bound (shown l.before) l.at l.terms (drop l.item-index l.items)
