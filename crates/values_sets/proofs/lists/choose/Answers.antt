use Rattle.std.proofs.Common.{◌<◌, ◌≤◌, ◌+◌, List, length, subst, sym, arith}
use Rattle.values_core.specs.Data.{Val}
use Rattle.values_core.specs.Sets.{items_of}
use Rattle.values_sets.proofs.Rests.{Keeps, keeps_more, keeps_all}
use Rattle.values_sets.proofs.lists.choose.Goals as goal

pub loop-item-preserved : goal.loop-item-preserved
loop-item-preserved c =
    let xs = c.members-items.result.now in
    let below : c.loop-item.item-index < length c.members-items.result.now = omega arith in
    subst (λ (ks : List Val). Keeps xs c.args.right.now c.args.inside (c.loop-item.item-index + 1) ks) (sym c.in_ok-push_if.ensures)
    (keeps_more xs c.args.right.now c.args.inside c.loop-item.item-index c.loop-item.kept.items c.item-item.result c.is_chosen-keep.result below c.item-item.is c.is_chosen-keep.ensures c.loop-item.invariant)

pub returns : goal.returns
returns c =
    let passed : length c.members-items.result.now ≤ c.loop-item.item-index = omega arith in
    keeps_all c.members-items.result.now (items_of c.args.all.now) c.args.right.now c.args.inside c.loop-item.item-index c.loop-item.kept.items c.members-items.ensures passed c.loop-item.invariant
