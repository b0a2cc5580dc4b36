use Rattle.judge_truth.proofs.Taken.{keep_decided, keep_nested}
use Rattle.judge_truth.proofs.deciding.decide_keep.Goals as goal

pub returns-then-depth-eq0 : goal.returns-then-depth-eq0
returns-then-depth-eq0 c = keep_nested c.args.pair c.args.depth c.args.part c.args.number.0 c.part_place.result c.requires.form c.if-depth-eq0.true c.part_place.ensures

pub returns : goal.returns
returns c =
    keep_decided c.args.pair c.args.depth c.args.part c.args.number.0 c.has_one_value.result c.requires.form c.if-depth-eq0.false c.requires.ready c.has_one_value.ensures
