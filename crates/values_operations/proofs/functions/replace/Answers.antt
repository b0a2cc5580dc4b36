use Rattle.std.proofs.Common.{◌≡◌, ◌<◌, ◌∙◌, List, ap, length, map, slice_set, subst, sym, arith}
use Rattle.std.specs.List.Sorted.{IsStrictlySortedBy}
use Rattle.values_core.specs.Data.{Val}
use Rattle.values_core.specs.Order.{val_cmp}
use Rattle.values_operations.specs.Changes.{replaced}
use Rattle.values_operations.proofs.OtherKeys.{set_replaced}
use Rattle.values_operations.proofs.functions.replace.Goals as goal

pub returns-then-eq : goal.returns-then-eq
returns-then-eq c =
    let key = c.args.key.now in
    let new = c.args.new in
    let same = c.loop-i.invariant.0 in
    let within : c.loop-i.i < length c.loop-i.pairs.items = omega (arith, ap length same) in
    let sorted = subst (λ (ps : List (Val × Val)). IsStrictlySortedBy val_cmp (map (λ p. p.0) ps)) (sym same) c.requires in
    set_replaced key new c.loop-i.pairs.items c.loop-i.i c.index_mut-pair.result.now sorted within c.index_mut-pair.ensures.value (sym c.eq.ensures ∙ c.if-eq.true)
    ∙ ap (map (replaced key new)) same
