use Rattle.std.proofs.Common.{sym}
use Rattle.actions_early_reads.specs.Ready.{table_of}
use Rattle.actions_early_reads.proofs.Following.{behind-missing, behind-none}
use Rattle.actions_forms.proofs.Named.{named-further, named-here}
use Rattle.actions_forms.proofs.keeping.+last_named.Goals as goal

pub returns-in-Some-last_named : goal.returns-in-Some-last_named
returns-in-Some-last_named t c =
    named-further (table_of c.args.walk.now) c.args.bound c.in-Some.number c.in-Some-last_named.last c.args.term.now c.in-Some-get.operator.now c.in-Some.ensures (sym c.in-Some-get.ensures.item) c.in-Some-last_named.ensures

pub returns-in-None-last_named : goal.returns-in-None-last_named
returns-in-None-last_named t c =
    named-here (table_of c.args.walk.now) c.args.bound c.in-Some.number c.args.term.now c.in-Some-get.operator.now c.in-Some.ensures (sym c.in-Some-get.ensures.item) c.in-None-last_named.ensures

pub returns-in-None : goal.returns-in-None
returns-in-None t c = behind-none (table_of c.args.walk.now) c.args.bound c.args.term.now c.in-None.ensures
