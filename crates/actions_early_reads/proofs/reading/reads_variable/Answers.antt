use Rattle.std.proofs.Common.{◌≡◌, true}
use Rattle.actions_early_reads.proofs.Shown.{one-variable}
use Rattle.actions_early_reads.proofs.reading.reads_variable.Goals as goal

pub returns-then-variable-lt64 : goal.returns-then-variable-lt64
returns-then-variable-lt64 c lt =
    let on : c.args.primed ≡ true = cc in
    one-variable c.with.result c.none.result c.args.variable c.args.primed c.with.ensures c.none.ensures on
