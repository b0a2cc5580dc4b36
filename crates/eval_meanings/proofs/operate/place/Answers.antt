use Rattle.std.proofs.Common.{sym}
use Rattle.std.specs.Prelude.{Some, None}
use Rattle.eval_meanings.proofs.Placing.{item_of, place_in-get, place_in-past}
use Rattle.eval_meanings.proofs.operate.place.Goals as goal

pub returns-in-Some : goal.returns-in-Some
returns-in-Some c = place_in-get c.args.at c.args.operands.now c.args.operand c.in-Some.place.now (sym (item_of c.args.operands.now c.args.operand (Some c.in-Some.place) c.in-Some.ensures.lookup))

pub returns-in-None : goal.returns-in-None
returns-in-None c = place_in-past c.args.at c.args.operands.now c.args.operand (sym (item_of c.args.operands.now c.args.operand None c.in-None.ensures.lookup))
