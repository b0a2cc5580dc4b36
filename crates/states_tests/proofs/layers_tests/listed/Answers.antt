use Rattle.std.proofs.Common.{arith}
use Rattle.std.proofs.lemmas.Result.{err_from_is_err_and}
use Rattle.states_tests.proofs.TableLaws.{listed_at, listed_all, refused, whole}
use Rattle.states_tests.proofs.layers_tests.listed.Goals as goal

pub returns-in_err-add_end : goal.returns-in_err-add_end
returns-in_err-add_end c =
    let p = err_from_is_err_and c.from_residual.result c.from_residual.ensures.1 in
    rw (p.1, p.2) (refused c.args.edges.now c.loop-edge.edge-index c.args.mark c.args.bound c.edge-item.result c.args.from.now c.in_err-add_end.field-0.0
    c.loop-edge-test.true c.edge-item.is c.in_err-add_end.ensures.err)

pub loop-edge-preserved : goal.loop-edge-preserved
loop-edge-preserved c = listed_at c.args.edges.now c.loop-edge.edge-index c.args.mark c.edge-item.result c.args.from.now _ _ c.loop-edge-test.true c.edge-item.is
    c.loop-edge.invariant c.in_ok-add_end.ensures.ok

pub returns : goal.returns
returns c = whole c.args.edges.now c.args.mark c.args.bound c.args.from.now c.loop-edge.found.entries c.in_ok-into_entries.field-0
    (listed_all c.args.edges.now c.loop-edge.edge-index c.args.mark c.args.from.now c.loop-edge.found.entries (omega arith) c.loop-edge.invariant) c.in_ok-into_entries.ensures
