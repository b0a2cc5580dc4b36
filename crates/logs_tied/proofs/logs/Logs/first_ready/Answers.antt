use Rattle.std.proofs.Common.{◌≡◌, ◌≤◌, false, length, arith}
use Rattle.base_cuts.specs.Cuts.{next}
use Rattle.base_cuts.specs.Orders.{IsReadyAt}
use Rattle.logs_tied.proofs.Taking.{is_first, not_off, one_more, some_left}
use Rattle.logs_tied.proofs.logs.Logs.first_ready.Goals as goal

pub ready-requires-clause-made : goal.ready-requires-clause-made
ready-requires-clause-made c = c.requires.tied.made

pub returns-then-ready-clause-first : goal.returns-then-ready-clause-first
returns-then-ready-clause-first c = is_first c.args.self.now c.requires.tied c.args.cut.now c.loop-file.file c.loop-file.invariant

pub loop-file-preserved : goal.loop-file-preserved
loop-file-preserved c =
    let off : c.ready.result ≡ false = grind arith in
    one_more c.args.self.now c.requires.tied c.args.cut.now c.loop-file.file c.loop-file.invariant
    (not_off {P = IsReadyAt c.args.self.now.order c.args.cut.now (next c.args.cut.now c.loop-file.file)} c.ready.result c.ready.ensures off)

pub unreachable-requires : goal.unreachable-requires
unreachable-requires c =
    let end : length c.args.self.now.files.items ≤ c.loop-file.file = grind arith in
    some_left c.args.self.now c.requires.tied c.args.cut.now c.requires.cut c.requires.left c.loop-file.file end c.loop-file.invariant
