use Rattle.std.proofs.Common.{◌≡◌, true, false, arith, Some}
use Rattle.base_cuts.specs.Cuts.{next}
use Rattle.base_cuts.specs.Orders.{IsReadyAt}
use Rattle.logs_tied.specs.Named.{IsNamed}
use Rattle.logs_tied.proofs.Choosing.{both_so, not_both}
use Rattle.logs_tied.proofs.named.is_named.Goals as goal

pub ready-requires-clause-made : goal.ready-requires-clause-made
ready-requires-clause-made c = c.requires.tied.made

pub returns-then-not-stands_at : goal.returns-then-not-stands_at
returns-then-not-stands_at c =
    let off : c.stands_at.result ≡ false = grind arith in
    not_both {P = IsReadyAt c.args.logs.now.order c.args.cut.now (next c.args.cut.now c.args.file)} {Q = IsNamed c.args.logs.now.files.items (Some c.args.at) (next c.args.cut.now c.args.file)}
    c.stands_at.result c.stands_at.ensures off

pub returns : goal.returns
returns c =
    let yes : c.stands_at.result ≡ true = grind arith in
    both_so {P = IsReadyAt c.args.logs.now.order c.args.cut.now (next c.args.cut.now c.args.file)} {Q = IsNamed c.args.logs.now.files.items (Some c.args.at) (next c.args.cut.now c.args.file)}
    c.ready.result c.ready.ensures (c.stands_at.ensures.0 yes)
