use Rattle.std.proofs.Common.{List, ◌+◌, ◌<◌, ◌/◌, ◌++◌, length, drop, ap, ◌∙◌, arith}
use Rattle.std.specs.List.{zip}
use Rattle.std.proofs.Math.Nat.{mod-lt}
use Rattle.values_core.specs.Data.{Val}
use Rattle.values_operations.specs.Choices.{choice}
use Rattle.values_operations.specs.PartList.{part_list}
use Rattle.values_operations.proofs.Taking.{some_member, rest_below, one_more}
use Rattle.values_operations.proofs.products.chosen.Goals as goal

pub nonzero_rem-rest : goal.nonzero_rem-rest
nonzero_rem-rest c =
    let ps = part_list c.args.parts in
    let below : c.loop-i.i < length ps = omega (arith, c.requires.as_many) in
    some_member ps c.members_of-members.result.now c.loop-i.i c.loop-i.rest below c.members_of-members.ensures.beside c.index-keys-i.result c.loop-i.invariant.below

pub offset_bounds-members-rest : goal.offset_bounds-members-rest
offset_bounds-members-rest c =
    let ps = part_list c.args.parts in
    let below : c.loop-i.i < length ps = omega (arith, c.requires.as_many) in
    let some = some_member ps c.members_of-members.result.now c.loop-i.i c.loop-i.rest below c.members_of-members.ensures.beside c.index-keys-i.result c.loop-i.invariant.below in
    omega (arith, c.members_of-members.ensures.few, mod-lt c.loop-i.rest some)

pub bounds-members-rest : goal.bounds-members-rest
bounds-members-rest c =
    let ps = part_list c.args.parts in
    let below : c.loop-i.i < length ps = omega (arith, c.requires.as_many) in
    mod-lt c.loop-i.rest (some_member ps c.members_of-members.result.now c.loop-i.i c.loop-i.rest below c.members_of-members.ensures.beside c.index-keys-i.result c.loop-i.invariant.below)

pub nonzero_div-rest : goal.nonzero_div-rest
nonzero_div-rest c =
    let ps = part_list c.args.parts in
    let below : c.loop-i.i < length ps = omega (arith, c.requires.as_many) in
    some_member ps c.members_of-members.result.now c.loop-i.i c.loop-i.rest below c.members_of-members.ensures.beside c.index-keys-i.result c.loop-i.invariant.below

pub loop-i-preserved : goal.loop-i-preserved
loop-i-preserved c =
    let ks = c.args.keys.now in
    let ps = part_list c.args.parts in
    let ms = c.members_of-members.result.now in
    let below : c.loop-i.i < length ps = omega (arith, c.requires.as_many) in
    let key : c.loop-i.i < length ks = omega arith in
    record {
      below = rest_below ps ms c.loop-i.i c.loop-i.rest below c.members_of-members.ensures.beside c.index-keys-i.result c.loop-i.invariant.below;
      kept =
          ap (λ (qs : List (Val × Val)). qs ++ zip (drop (c.loop-i.i + 1) ks) (choice (drop (c.loop-i.i + 1) ps) (c.loop-i.rest / length ms))) c.in_ok-push_pair.ensures
          ∙ one_more c.loop-i.pairs.items ks ps ms c.loop-i.i c.loop-i.rest c.index-keys-i.result c.index-members-rest.result key below c.index-keys-i.is c.members_of-members.ensures.beside c.index-members-rest.is c.loop-i.invariant.below
          ∙ c.loop-i.invariant.kept;
    }
