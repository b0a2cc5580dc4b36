use Rattle.std.proofs.Common.{Err, subst, sym}
use Rattle.values_core.specs.FunctionOperations.{GivesValue}
use Rattle.values_core.specs.Functions.{IsFunctionOf}
use Rattle.values_core.specs.declared.fault.OpFault.{OpFault}
use Rattle.values_operations.proofs.Made.{refuses_none}
use Rattle.values_operations.proofs.products.function_of.Goals as goal

pub returns-in-Err : goal.returns-in-Err
returns-in-Err c = subst (λ (e : OpFault). GivesValue (IsFunctionOf c.args.pairs.items) (Err e)) (sym c.from.ensures) (refuses_none c.args.pairs.items c.in-Err.fault c.requires c.in-Err.ensures)
