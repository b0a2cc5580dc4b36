use Rattle.std.proofs.Common.{◌<◌, length, arith, refl}
use Rattle.std.proofs.lemmas.Option.{slice_get_read}
use Rattle.states_layers.proofs.Grow.{growing_nil, grown}
use Rattle.states_layers.specs.Repeats.{lent}
use Rattle.states_layers.proofs.RepeatLaws.{gone_more, gone_nil, growing_skip}
use Rattle.states_layers.proofs.growth.grow.Goals as goal

pub grow_by-requires-clause-source : goal.grow_by-requires-clause-source
grow_by-requires-clause-source g c = λ x at. (c.requires.range c.loop-index.index x at).0 c.loop-index.invariant.after

pub grow_by-requires-clause-part : goal.grow_by-requires-clause-part
grow_by-requires-clause-part g c = c.loop-index.invariant.grows.part

pub loop-index-init : goal.loop-index-init
loop-index-init g c = record {
  grows = rw c.new-layer.ensures.empty (growing_nil (g.S.Steps.system c.args.steps.now) c.args.step c.args.nodes.now c.args.from c.requires.room);
  after = omega arith;
  gone = rw c.new-gone.ensures.empty (gone_nil c.args.nodes.now c.args.from c.args.from);
  known = c.requires.known;
}

pub loop-index-preserved : goal.loop-index-preserved
loop-index-preserved g c =
    let lt : c.loop-index.index < length c.args.nodes.now = omega arith in
    let at = slice_get_read c.args.nodes.now _ c.loop-index.index c.index-nodes-index.result refl lt c.index-nodes-index.is in
    record {
      grows = c.in_ok-grow_by.ensures.grows c.args.from c.loop-index.invariant.grows;
      after = omega arith;
      gone = gone_more c.args.nodes.now c.args.from c.loop-index.index c.index-nodes-index.result (lent c.loop-index.gone.keys) _ _ at c.loop-index.invariant.after
          c.in_ok-is_repeated.ensures c.loop-index.invariant.gone;
      known = c.in_ok-grow_by.ensures.known;
    }

pub loop-index-preserved-then-branch : goal.loop-index-preserved-then-branch
loop-index-preserved-then-branch g c =
    let lt : c.loop-index.index < length c.args.nodes.now = omega arith in
    let at = slice_get_read c.args.nodes.now _ c.loop-index.index c.index-nodes-index.result refl lt c.index-nodes-index.is in
    record {
      grows = growing_skip (g.S.Steps.system c.args.steps.now) c.args.step c.args.nodes.now c.args.from c.loop-index.index _ c.index-nodes-index.result (lent c.loop-index.gone.keys) at
          c.loop-index.invariant.gone (c.in_ok-is_repeated.ensures.there c.if-branch.true) c.loop-index.invariant.grows;
      after = omega arith;
      gone = gone_more c.args.nodes.now c.args.from c.loop-index.index c.index-nodes-index.result (lent c.loop-index.gone.keys) _ _ at c.loop-index.invariant.after
          c.in_ok-is_repeated.ensures c.loop-index.invariant.gone;
      known = c.loop-index.invariant.known;
    }

pub returns-clause-whole : goal.returns-clause-whole
returns-clause-whole g c = grown (g.S.Steps.system c.args.steps.now) c.args.step c.args.nodes.now c.args.from c.loop-index.index _
    c.requires.small.some c.requires.opens c.requires.range c.requires.kept (omega arith) c.loop-index.invariant.grows
