use Rattle.values_core.specs.Products.{InProduct}
use Rattle.values_core.specs.SetOperations.{GivesSet}
use Rattle.values_operations.proofs.Adapted.{on_all_sets, not_all_sets}
use Rattle.values_operations.proofs.products.product.Goals as goal

pub returns-in-Ok : goal.returns-in-Ok
returns-in-Ok c = let ps = c.args.parts.now in on_all_sets 0 ps (GivesSet (InProduct ps)) c.tuples.result c.in-Ok.ensures c.tuples.ensures

pub returns-in-Err : goal.returns-in-Err
returns-in-Err c = let ps = c.args.parts.now in not_all_sets 0 ps (GivesSet (InProduct ps)) c.in-Err.fault c.in-Err.ensures
