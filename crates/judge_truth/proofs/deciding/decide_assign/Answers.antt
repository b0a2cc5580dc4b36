use Rattle.judge_truth.proofs.Taken.{assign_decided, assign_reads, assign_stops}
use Rattle.judge_truth.proofs.deciding.decide_assign.Goals as goal

pub eval-requires : goal.eval-requires
eval-requires c = assign_reads c.args.pair c.args.depth c.args.part c.args.number.0 c.args.term.now c.requires.form c.requires.ready

pub returns-in-Err : goal.returns-in-Err
returns-in-Err c = assign_stops c.args.pair c.args.depth c.args.part c.args.number.0 c.args.term.now c.in-Err.fault c.requires.form c.requires.ready c.in-Err.ensures

pub returns-in-Ok : goal.returns-in-Ok
returns-in-Ok c =
    assign_decided c.args.pair c.args.depth c.args.part c.args.number.0 c.args.term.now c.in-Ok.value c.has_value.result c.requires.form c.requires.ready c.in-Ok.ensures c.has_value.ensures
