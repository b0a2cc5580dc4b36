use Rattle.std.proofs.Common.{Err, subst, sym}
use Rattle.std.specs.List.{Contains}
use Rattle.values_core.specs.FunctionOperations.{GivesFunction}
use Rattle.values_core.specs.declared.fault.OpFault.{OpFault}
use Rattle.values_operations.proofs.Pairs.{refuses_function}
use Rattle.values_operations.proofs.functions.function_from.Goals as goal

pub returns-in-Err : goal.returns-in-Err
returns-in-Err c =
    subst (λ (e : OpFault). GivesFunction (λ key v. Contains c.args.pairs.items (key, v)) (Err e)) (sym c.from.ensures) (refuses_function c.args.pairs.items c.in-Err.fault c.requires c.in-Err.ensures)
