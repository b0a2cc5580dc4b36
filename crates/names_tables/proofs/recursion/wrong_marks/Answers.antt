use Rattle.std.proofs.Common.{◌≤◌, length, arith}
use Rattle.names_tables.proofs.Marking.{all_wrong}
use Rattle.names_tables.proofs.recursion.wrong_marks.Goals as goal

pub returns : goal.returns
returns c =
    let few : length c.args.strictly.now ≤ c.loop-index.index = omega (arith, c.requires, c.loop-index-test.false) in
    all_wrong c.args.strictly.now c.args.itself.now c.args.above.now c.loop-index.marks.items c.loop-index.index c.loop-index.invariant.count few c.loop-index-test.false c.loop-index.invariant.exact
