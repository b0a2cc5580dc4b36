use Rattle.std.proofs.Common.{sym, ap, subst, length, List}
use Rattle.names_terms.specs.declared.operator.Operator.{Operator}
use Rattle.names_term_parts.specs.Slots.{UsesSmaller}
use Rattle.names_term_parts.proofs.Ordering.{smaller_pushed}
use Rattle.names_tables.proofs.Placeholders.{marks_end, marks_of, marks_on}
use Rattle.names_tables.proofs.Places.{smaller_none}
use Rattle.names_tables.proofs.fault.placeholders.Goals as goal

pub loop-above-init : goal.loop-above-init
loop-above-init c = record { smaller = smaller_none c.new-table.result c.new-table.ensures; levels = ap marks_of c.new-table.ensures }

pub loop-above-preserved : goal.loop-above-preserved
loop-above-preserved c = record {
  smaller = subst (λ (l : List Operator). UsesSmaller l) (sym c.in_ok-push.ensures.pushed) (smaller_pushed c.loop-above.table c.in_ok-item.item c.loop-above.invariant.smaller c.in_ok-item.ensures.apart (c.in_ok-item.ensures.below (length c.loop-above.table)));
  levels = marks_on c.loop-above.table c.push.new.self c.in_ok-item.item c.args.levels.now c.loop-above.above-index c.loop-above-test.true c.in_ok-push.ensures.pushed c.in_ok-item.ensures.level c.loop-above.invariant.levels;
}

pub returns-clause-levels : goal.returns-clause-levels
returns-clause-levels c = marks_end c.loop-above.table c.args.levels.now c.loop-above.above-index c.loop-above-test.false c.loop-above.invariant.levels
