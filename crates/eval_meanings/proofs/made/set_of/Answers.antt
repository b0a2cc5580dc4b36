use Rattle.std.specs.Prelude.{Contains}
use Rattle.values_core.specs.SetOperations.{GivesSet}
use Rattle.values_operations.proofs.Listing.{refuses_set}
use Rattle.eval_meanings.proofs.Telling.{refused_at}
use Rattle.eval_meanings.proofs.made.set_of.Goals as goal

pub returns-in-Err : goal.returns-in-Err
returns-in-Err c = refused_at (GivesSet (Contains c.args.values.items)) c.args.at _ _ c.fault_at.ensures (refuses_set c.args.values.items c.in-Err.fault c.in-Err.ensures)
