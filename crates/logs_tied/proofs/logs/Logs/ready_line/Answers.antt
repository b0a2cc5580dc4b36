use Rattle.std.proofs.Common.{◌≡◌, true, false, arith}
use Rattle.base_cuts.specs.Cuts.{next}
use Rattle.base_cuts.specs.Orders.{IsReadyAt}
use Rattle.logs_tied.proofs.Taking.{not_off, told_ready}
use Rattle.logs_tied.proofs.logs.Logs.ready_line.Goals as goal

pub ready-requires-clause-made : goal.ready-requires-clause-made
ready-requires-clause-made c = c.requires.tied.made

pub returns-then-not-ready : goal.returns-then-not-ready
returns-then-not-ready c =
    let off : c.ready.result ≡ false = grind arith in
    not_off {P = IsReadyAt c.args.self.now.order c.args.cut.now (next c.args.cut.now c.args.file)} c.ready.result c.ready.ensures off

pub returns : goal.returns
returns c =
    let yes : c.ready.result ≡ true = grind arith in
    told_ready c.args.self.now c.requires.tied c.args.cut.now c.args.file c.next_line.result (λ l. l.now) (c.ready.ensures.0 yes) c.next_line.ensures
