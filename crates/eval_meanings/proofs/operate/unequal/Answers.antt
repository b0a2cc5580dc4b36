use Rattle.std.specs.Prelude.{not}
use Rattle.eval_meanings.proofs.Placing.{are_unequal, is_whether}
use Rattle.eval_meanings.proofs.operate.unequal.Goals as goal

pub returns : goal.returns
returns c = is_whether _ (not c.eq-same.result) c.boolean.result c.boolean.ensures (are_unequal c.args.a.now c.args.b.now c.eq-same.result c.eq-same.ensures)
