use Rattle.std.specs.Prelude.{Contains}
use Rattle.values_core.specs.FunctionOperations.{GivesFunction}
use Rattle.values_operations.proofs.Pairs.{refuses_function}
use Rattle.eval_meanings.proofs.Telling.{refused_at}
use Rattle.eval_meanings.proofs.made.function_of.Goals as goal

pub returns-in-Err : goal.returns-in-Err
returns-in-Err c =
    refused_at (GivesFunction (λ key v. Contains c.args.pairs.items (key, v))) c.args.at _ _ c.fault_at.ensures (refuses_function c.args.pairs.items c.in-Err.fault c.requires c.in-Err.ensures)
