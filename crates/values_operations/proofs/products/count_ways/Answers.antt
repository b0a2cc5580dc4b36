use Rattle.std.proofs.Common.{◌<◌, length, arith}
use Rattle.values_core.specs.Data.{truth}
use Rattle.std.proofs.Common.{true}
use Rattle.values_operations.specs.PartList.{part_list}
use Rattle.values_operations.proofs.Taking.{at_most_limit, limited_step, small_product}
use Rattle.values_operations.proofs.products.count_ways.Goals as goal

pub overflow_mul-count : goal.overflow_mul-count
overflow_mul-count c = omega (arith, small_product c.loop-i.count (length c.members_of-size.result.now) (at_most_limit c.loop-i.invariant) c.members_of-size.ensures.few)

pub loop-i-preserved : goal.loop-i-preserved
loop-i-preserved c =
    let ps = part_list c.args.parts in
    let below : c.loop-i.i < length ps = omega (arith, c.requires.as_many) in
    limited_step ps c.members_of-size.result.now c.loop-i.i c.loop-i.count c.limited-count.result below c.members_of-size.ensures.beside (truth true) c.loop-i.invariant c.limited-count.ensures.few c.limited-count.ensures.many
