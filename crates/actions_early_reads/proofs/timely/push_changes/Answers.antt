use Rattle.names_term_parts.specs.Waiting.{waiting}
use Rattle.actions_early_reads.proofs.Changing.{changes-on}
use Rattle.actions_early_reads.proofs.timely.push_changes.Goals as goal

pub loop-change-preserved : goal.loop-change-preserved
loop-change-preserved c =
    changes-on c.items-items.result.now c.loop-change.change-index c.change-item.result c.items.result.now (waiting c.args.stack.now.items) (waiting c.loop-change.stack.items) (waiting c.push_path.new.stack.items) (waiting c.push.new.stack.items) c.loop-change-test.true c.change-item.is c.items.ensures c.loop-change.invariant c.in_ok-push_path.ensures c.in_ok-push.ensures
