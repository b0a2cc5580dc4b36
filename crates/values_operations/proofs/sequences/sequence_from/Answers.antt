use Rattle.std.proofs.Common.{Err, subst, sym}
use Rattle.values_core.specs.FunctionOperations.{GivesSequence}
use Rattle.values_core.specs.declared.fault.OpFault.{OpFault}
use Rattle.values_operations.proofs.Parts.{refuses_sequence}
use Rattle.values_operations.proofs.sequences.sequence_from.Goals as goal

pub returns-in-Err : goal.returns-in-Err
returns-in-Err c = subst (λ (e : OpFault). GivesSequence c.args.values.items (Err e)) (sym c.from.ensures) (refuses_sequence c.args.values.items c.in-Err.fault c.in-Err.ensures)
