use Rattle.std.proofs.Common.{length, ap, arith}
use Rattle.values_operations.proofs.Taking.{few_items}
use Rattle.values_operations.proofs.products.members_in.Goals as goal

pub returns : goal.returns
returns c = record { all = c.members.ensures; few = omega (arith, few_items c.args.part.now c.is_value.ensures, ap (λ xs. length xs) c.members.ensures) }
