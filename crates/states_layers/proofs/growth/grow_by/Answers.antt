use Rattle.std.proofs.Common.{refl, arith, rules}
use Rattle.std.proofs.lemmas.Option.{slice_get_read}
use Rattle.states_layers.specs.Found.{members_of}
use Rattle.states_layers.proofs.Grow.{node_layer, part_step, part_are, together, growing_step}
use Rattle.states_layers.proofs.KeptLaws.{long_members}
use Rattle.states_layers.proofs.LayerLaws.{layer_moved}
use Rattle.states_layers.proofs.growth.grow_by.Goals as goal

pub expand-requires-clause-source : goal.expand-requires-clause-source
expand-requires-clause-source g c =
    let at = slice_get_read c.args.nodes.now _ c.args.index c.index-nodes-index.result refl c.requires.within c.index-nodes-index.is in
    c.requires.source c.index-nodes-index.result at

pub expand-requires-clause-reached : goal.expand-requires-clause-reached
expand-requires-clause-reached g c =
    let at = slice_get_read c.args.nodes.now _ c.args.index c.index-nodes-index.result refl c.requires.within c.index-nodes-index.is in
    node_layer _ _ _ c.args.nodes.now c.requires.kept c.args.index c.index-nodes-index.result at

pub check_size-requires : goal.check_size-requires
check_size-requires g c = record {
  layer = rw (c.line_after_move-line.ensures, c.silents_after_move-silents.ensures)
      (layer_moved (g.S.Steps.system c.args.steps.now) c.args.step c.requires.small.some c.requires.opens);
}

pub returns-in_err-check_size-clause-stopped : goal.returns-in_err-check_size-clause-stopped
returns-in_err-check_size-clause-stopped g c =
    let y = g.S.Steps.system c.args.steps.now in
    let now = c.merge.new.layer.entries in
    let at = slice_get_read c.args.nodes.now _ c.args.index c.index-nodes-index.result refl c.requires.within c.index-nodes-index.is in
    let part = part_step y c.args.step c.args.nodes.now _ now _ _ _ c.index-nodes-index.result at (c.requires.source c.index-nodes-index.result at)
    c.in_ok-list.ensures.listed c.in_ok-merge.ensures c.requires.part in
    let are = part_are y c.args.step c.args.nodes.now now c.requires.opens c.requires.kept part in
    let long = long_members now in
    let stop = c.in_err-check_size.ensures.stopped (members_of now) (omega (arith, long, c.len.ensures.len))
    (rw (c.line_after_move-line.ensures, c.silents_after_move-silents.ensures) are)
    (rw (c.line_after_move-line.ensures, c.silents_after_move-silents.ensures) (together y c.args.step c.args.nodes.now (members_of now) c.requires.kept are)) in
    search (rules, c.from_residual-in_err-check_size.ensures, stop, c.in_err-check_size.is)

pub returns-clause-grows : goal.returns-clause-grows
returns-clause-grows g c = λ from grown.
    let at = slice_get_read c.args.nodes.now _ c.args.index c.index-nodes-index.result refl c.requires.within c.index-nodes-index.is in
    let limit = rw c.len.ensures.len at c.in_ok-check_size.ensures.limit in
    let total = rw c.len.ensures.len at c.in_ok-check_size.ensures.total in
    growing_step (g.S.Steps.system c.args.steps.now) c.args.step c.args.nodes.now from c.args.index _ _ _ _ c.index-nodes-index.result at (c.requires.source c.index-nodes-index.result at)
    c.in_ok-list.ensures.listed c.in_ok-merge.ensures grown limit total (rw c.limit-limit.ensures limit)
