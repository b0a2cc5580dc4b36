use Rattle.values_core.specs.FunctionOperations.{GivesSequence}
use Rattle.values_operations.proofs.Parts.{refuses_sequence}
use Rattle.eval_meanings.proofs.Telling.{refused_at}
use Rattle.eval_meanings.proofs.made.sequence_of.Goals as goal

pub returns-in-Err : goal.returns-in-Err
returns-in-Err c = refused_at (GivesSequence c.args.values.items) c.args.at _ _ c.fault_at.ensures (refuses_sequence c.args.values.items c.in-Err.fault c.in-Err.ensures)
