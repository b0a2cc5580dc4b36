use Rattle.eval_meanings.proofs.Placing.{are_equal, is_whether}
use Rattle.eval_meanings.proofs.operate.equal.Goals as goal

pub returns : goal.returns
returns c = is_whether _ c.eq-same.result c.boolean.result c.boolean.ensures (are_equal c.args.a.now c.args.b.now c.eq-same.result c.eq-same.ensures)
