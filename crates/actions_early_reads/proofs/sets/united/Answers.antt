use Rattle.std.proofs.Common.{arith}
use Rattle.actions_early_reads.proofs.Shown.{united-begins, united-more, united-ends}
use Rattle.actions_early_reads.proofs.sets.united.Goals as goal

pub loop-variable-init : goal.loop-variable-init
loop-variable-init c = united-begins c.args.first c.args.second

pub loop-variable-preserved : goal.loop-variable-preserved
loop-variable-preserved c = united-more c.loop-variable.all c.with_if-all.result c.args.first c.args.second c.loop-variable.variable c.is_in.result c.loop-variable.invariant c.is_in.ensures c.with_if-all.ensures.added c.with_if-all.ensures.kept

pub returns : goal.returns
returns c = united-ends c.loop-variable.all c.args.first c.args.second c.loop-variable.variable (omega arith) c.loop-variable.invariant
