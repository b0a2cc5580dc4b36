use Rattle.values_core.specs.Products.{InRecordSet}
use Rattle.values_core.specs.SetOperations.{GivesSet}
use Rattle.values_operations.proofs.Adapted.{on_all_sets, not_all_sets}
use Rattle.values_operations.proofs.products.record_set.Goals as goal

pub returns-in-Ok : goal.returns-in-Ok
returns-in-Ok c = let ps = c.args.parts.now in on_all_sets 0 ps (GivesSet (InRecordSet c.args.names.now ps)) c.records.result c.in-Ok.ensures c.records.ensures

pub returns-in-Err : goal.returns-in-Err
returns-in-Err c = let ps = c.args.parts.now in not_all_sets 0 ps (GivesSet (InRecordSet c.args.names.now ps)) c.in-Err.fault c.in-Err.ensures
