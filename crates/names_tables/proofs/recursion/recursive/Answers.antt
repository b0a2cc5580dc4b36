use Rattle.std.proofs.Common.{◌≡◌, ◌≤◌, length, arith}
use Rattle.std.proofs.lemmas.List.{length-map}
use Rattle.base_use_order.specs.Uses.{table_of}
use Rattle.names_tables.proofs.Marking.{all_marked}
use Rattle.names_tables.proofs.recursion.recursive.Goals as goal

pub returns-clause-exact : goal.returns-clause-exact
returns-clause-exact c =
    let many : length (table_of c.args.uses.now) ≡ length c.args.uses.now = length-map c.args.uses.now (λ u. u.items) in
    let le : length (table_of c.args.uses.now) ≤ c.loop-index.index = omega (arith, many, c.loop-index-test.false) in
    all_marked (table_of c.args.uses.now) c.loop-index.marks.items c.loop-index.index c.loop-index.invariant.count le c.loop-index.invariant.exact
