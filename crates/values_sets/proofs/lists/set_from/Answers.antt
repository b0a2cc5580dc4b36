use Rattle.std.proofs.Common.{Err, subst, sym}
use Rattle.std.specs.List.{Contains}
use Rattle.values_core.specs.SetOperations.{GivesSet}
use Rattle.values_core.specs.declared.fault.OpFault.{OpFault}
use Rattle.values_operations.proofs.Listing.{refuses_set}
use Rattle.values_sets.proofs.lists.set_from.Goals as goal

pub returns-in-Err : goal.returns-in-Err
returns-in-Err c = subst (λ (e : OpFault). GivesSet (Contains c.args.members.items) (Err e)) (sym c.from.ensures) (refuses_set c.args.members.items c.in-Err.fault c.in-Err.ensures)
