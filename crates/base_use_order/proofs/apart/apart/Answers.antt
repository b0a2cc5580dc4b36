use Rattle.std.proofs.Common.{◌≡◌, ◌≤◌, ◌+◌, ap, arith, length}
use Rattle.std.proofs.lemmas.List.{length-map}
use Rattle.base_use_order.specs.Uses.{table_of}
use Rattle.base_use_order.proofs.LeftOut.{so_far_all, so_far_more, so_far_none, table_pushed}
use Rattle.base_use_order.proofs.apart.apart.Goals as goal

pub loop-index-init : goal.loop-index-init
loop-index-init c = (so_far_none c.args.marks.now (table_of c.args.uses.now) (table_of c.new-others.result.items) (ap table_of c.new-others.ensures.items), omega arith)

pub loop-index-preserved : goal.loop-index-preserved
loop-index-preserved c =
    let many : length (table_of c.args.uses.now) ≡ length c.args.uses.now = length-map c.args.uses.now (λ u. u.items) in
    let more : c.loop-index.index + 1 ≤ length (table_of c.args.uses.now) = omega (arith, many, c.loop-index-test.true) in (
      so_far_more c.args.marks.now (table_of c.args.uses.now) (table_of c.loop-index.others.items) (table_of c.push.new.self.items) c.in_ok-used.used.items c.loop-index.index
          (table_pushed c.loop-index.others.items c.push.new.self.items c.in_ok-used.used c.in_ok-push.ensures.items) c.in_ok-used.ensures c.loop-index.invariant.0,
      more,
    )

pub returns : goal.returns
returns c =
    let many : length (table_of c.args.uses.now) ≡ length c.args.uses.now = length-map c.args.uses.now (λ u. u.items) in
    let all : length (table_of c.args.uses.now) ≤ c.loop-index.index = omega (arith, many, c.loop-index-test.false) in
    so_far_all c.args.marks.now (table_of c.args.uses.now) (table_of c.loop-index.others.items) c.loop-index.index all c.loop-index.invariant.1 c.loop-index.invariant.0
