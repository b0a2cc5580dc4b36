use Rattle.std.proofs.Common.{arith}
use Rattle.names_pruning.specs.Parts.{IsOver}
use Rattle.names_pruning.proofs.Loops.{all_flags, behind_next, one_flag}
use Rattle.names_pruning.proofs.over.are_over.Goals as goal

pub loop-unit-preserved : goal.loop-unit-preserved
loop-unit-preserved c =
    let index = c.loop-unit.index in
    let unit = c.unit-item.result in
    record {
      small = omega (arith, c.loop-unit.invariant.small, c.behind-index.ensures, behind_next index unit);
      flags = one_flag (IsOver c.args.names.now c.args.unread.now c.args.bad.now) c.items-unit-items.result.now c.loop-unit.unit-index index c.behind-index.result unit c.loop-unit.over.items
          c.push.new.self.items c.in_ok-is_over.is_over c.loop-unit-test.true c.unit-item.is c.in_ok-push.ensures.items c.in_ok-is_over.ensures c.behind-index.ensures c.loop-unit.invariant.flags;
    }

pub returns : goal.returns
returns c =
    all_flags (IsOver c.args.names.now c.args.unread.now c.args.bad.now) c.items-unit-items.result.now c.args.units.now c.loop-unit.unit-index c.loop-unit.index c.loop-unit.over.items
    c.loop-unit-test.false c.items-unit-items.ensures c.loop-unit.invariant.flags
