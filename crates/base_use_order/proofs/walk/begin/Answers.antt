use Rattle.std.proofs.Common.{◌≡◌, ◌<◌, ◌≤◌, length, replicate, reverse, sym, arith}
use Rattle.std.proofs.lemmas.List.{length-map}
use Rattle.base_use_order.specs.declared.walk.Mark.TheVariants.{New}
use Rattle.base_use_order.specs.Uses.{table_of}
use Rattle.base_use_order.proofs.Walking.{begun, one_before}
use Rattle.base_use_order.proofs.Turning.{turns_first}
use Rattle.base_use_order.proofs.walk.begin.Goals as goal

pub loop-definition-preserved : goal.loop-definition-preserved
loop-definition-preserved c =
    let d = c.loop-definition.definition in
    let n = length c.args.uses.now in
    let some : 0 < d = omega arith in
    let most : d ≤ n = omega arith in
    one_before d n some most c.loop-definition.tasks.items c.push.new.self.items c.loop-definition.invariant c.in_ok-push.ensures.items

pub returns-clause-stands : goal.returns-clause-stands
returns-clause-stands c =
    let n = length c.args.uses.now in
    let filled : c.in_ok-marks.marks.items ≡ replicate n New = c.in_ok-marks.ensures.items_if_clones_equal (λ y h. h) in
    let last : c.loop-definition.definition ≤ 0 = omega arith in
    begun (table_of c.args.uses.now) n c.loop-definition.definition c.in_ok-marks.marks.items c.new.result.items c.loop-definition.tasks.items (sym (length-map c.args.uses.now (λ v. v.items))) last filled c.new.ensures.items c.loop-definition.invariant

pub returns-clause-in_turn : goal.returns-clause-in_turn
returns-clause-in_turn c =
    let last : c.loop-definition.definition ≤ 0 = omega arith in
    turns_first (length c.args.uses.now) c.loop-definition.definition c.new.result.items (reverse c.loop-definition.tasks.items) last c.new.ensures.items c.loop-definition.invariant
