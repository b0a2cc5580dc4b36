use Rattle.judge_truth.proofs.Taken.{choose_decided, choose_reads, choose_stops}
use Rattle.judge_truth.proofs.deciding.decide_choose.Goals as goal

pub describe_set-requires : goal.describe_set-requires
describe_set-requires c = choose_reads c.args.pair c.args.depth c.args.part c.args.number.0 c.args.term.now c.requires.form c.requires.ready

pub returns-in-Err : goal.returns-in-Err
returns-in-Err c = choose_stops c.args.pair c.args.depth c.args.part c.args.number.0 c.args.term.now c.in-Err.fault c.requires.form c.requires.ready c.in-Err.ensures.fine

pub returns-in-Ok : goal.returns-in-Ok
returns-in-Ok c =
    choose_decided c.args.pair c.args.depth c.args.part c.args.number.0 c.args.term.now c.in-Ok.set c.has_member-belongs.result c.requires.form c.requires.ready c.in-Ok.ensures.fine c.has_member-belongs.ensures
