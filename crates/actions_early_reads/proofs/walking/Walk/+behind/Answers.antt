use Rattle.std.proofs.Common.{sym}
use Rattle.actions_early_reads.specs.Ready.{table_of}
use Rattle.actions_early_reads.proofs.Following.{behind-none, behind-next, behind-lighter}
use Rattle.actions_early_reads.proofs.walking.Walk.+behind.Goals as goal

pub returns-in-Some-get-clause-same : goal.returns-in-Some-get-clause-same
returns-in-Some-get-clause-same t c = behind-next (table_of c.args.self.now) c.args.bound c.in-Some.number c.args.term.now c.in-Some-get.operator.now c.behind.result.0 c.behind.result.1.now c.in-Some.ensures (sym c.in-Some-get.ensures.item) c.behind.ensures.same

pub returns-in-Some-get-clause-lighter : goal.returns-in-Some-get-clause-lighter
returns-in-Some-get-clause-lighter t c = behind-lighter (table_of c.args.self.now) c.args.bound c.in-Some.number c.args.term.now c.in-Some-get.operator.now c.behind.result.0 c.behind.result.1.now c.in-Some.ensures (sym c.in-Some-get.ensures.item) c.behind.ensures.lighter

pub returns-in-None-clause-same : goal.returns-in-None-clause-same
returns-in-None-clause-same t c = behind-none (table_of c.args.self.now) c.args.bound c.args.term.now c.in-None.ensures
