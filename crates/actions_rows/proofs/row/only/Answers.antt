use Rattle.std.proofs.Common.{◌<◌, length, arith}
use Rattle.eval_parts.proofs.Loops.{has_more}
use Rattle.actions_rows.proofs.row.only.Goals as goal

pub returns : goal.returns
returns c =
    let some : 0 < length c.parts.result.1.now = omega (arith, c.if-others-eq0.false) in
    has_more c.parts.result.0.now c.parts.result.1.now c.args.operands.now c.parts.ensures some
