use Rattle.std.proofs.Common.{Err, subst, sym}
use Rattle.values_core.specs.FunctionOperations.{GivesValue}
use Rattle.values_core.specs.Sets.{IsSetOf}
use Rattle.values_core.specs.declared.fault.OpFault.{OpFault}
use Rattle.values_operations.proofs.Subsets.{refuses_no_subset}
use Rattle.values_operations.proofs.products.subset_from.Goals as goal

pub returns-in-Err : goal.returns-in-Err
returns-in-Err c = subst (λ (e : OpFault). GivesValue (IsSetOf c.args.members.items) (Err e)) (sym c.from.ensures) (refuses_no_subset c.args.members.items c.in-Err.fault c.requires c.in-Err.ensures)
