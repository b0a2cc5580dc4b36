use Rattle.steps_cut_source.proofs.Taking.{is_first_ready}
use Rattle.steps_cut_source.proofs.lines.first_ready_at.Goals as goal

pub returns : goal.returns
returns c =
    is_first_ready c.args.logs.now.files.items c.args.logs.now.order c.args.cut.now c.first_ready-file.result c.first_ready-file.ensures.ready c.first_ready-file.ensures.first c.in-Some.line.now
    c.in-Some.ensures.1

pub unreachable-requires : goal.unreachable-requires
unreachable-requires c = c.in-None.ensures c.first_ready-file.ensures.ready
