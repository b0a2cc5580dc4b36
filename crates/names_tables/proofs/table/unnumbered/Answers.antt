use Rattle.names_tables.proofs.Filling.{none_pushed}
use Rattle.names_tables.proofs.Places.{counted_on}
use Rattle.names_tables.proofs.table.unnumbered.Goals as goal

pub loop-made-preserved : goal.loop-made-preserved
loop-made-preserved c = record {
  count = counted_on c.loop-made.numbers.items c.push.new.self.items _ c.loop-made.made c.in_ok-push.ensures.items c.loop-made.invariant.count;
  none = none_pushed c.loop-made.numbers.items c.push.new.self.items c.in_ok-push.ensures.items c.loop-made.invariant.none;
}
