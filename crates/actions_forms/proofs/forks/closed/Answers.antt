use Rattle.std.proofs.Common.{rules}
use Rattle.actions_early_reads.specs.Sets.{shown}
use Rattle.actions_forms.proofs.Forked.{closed-next, closed-stop, closed-end}
use Rattle.actions_forms.proofs.forks.closed.Goals as goal

pub loop-fork-preserved : goal.loop-fork-preserved
loop-fork-preserved c =
    closed-next c.args.variables (shown c.args.before) c.args.forks.items c.args.last c.loop-fork.forks.items c.pop.new.self.items c.in-Some.fork c.loop-fork.set c.in-Ok.more c.in-Some.ensures.items c.in-Ok.ensures c.loop-fork.invariant

pub returns-in-Err : goal.returns-in-Err
returns-in-Err c =
    closed-stop c.args.variables (shown c.args.before) c.args.forks.items c.args.last c.loop-fork.forks.items c.pop.new.self.items c.in-Some.fork c.loop-fork.set c.in-Err.fault c.in-Some.ensures.items c.in-Err.ensures c.loop-fork.invariant

pub returns : goal.returns
returns c = closed-end c.args.variables (shown c.args.before) c.args.forks.items c.args.last c.loop-fork.forks.items c.loop-fork.set (search rules) c.loop-fork.invariant
