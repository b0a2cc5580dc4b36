use Rattle.std.proofs.Common.{◌≡◌, length, arith, refl, rules}
use Rattle.std.proofs.lemmas.Option.{slice_get_read}
use Rattle.states_layers.proofs.Grow.{grown_alone, list_are, node_layer, together}
use Rattle.states_layers.proofs.LayerLaws.{layer_moved}
use Rattle.states_layers.proofs.growth.list_alone.Goals as goal

pub expand-requires-clause-source : goal.expand-requires-clause-source
expand-requires-clause-source g c =
    let at = slice_get_read c.args.nodes.now _ c.args.from c.index-nodes-from.result refl (omega (arith, c.requires.alone)) c.index-nodes-from.is in
    (c.requires.range c.args.from c.index-nodes-from.result at).0 (omega arith)

pub expand-requires-clause-reached : goal.expand-requires-clause-reached
expand-requires-clause-reached g c =
    let at = slice_get_read c.args.nodes.now _ c.args.from c.index-nodes-from.result refl (omega (arith, c.requires.alone)) c.index-nodes-from.is in
    node_layer _ _ _ c.args.nodes.now c.requires.kept c.args.from c.index-nodes-from.result at

pub check_size-requires : goal.check_size-requires
check_size-requires g c = record {
  layer = rw (c.line_after_move-line.ensures, c.silents_after_move-silents.ensures)
      (layer_moved (g.S.Steps.system c.args.steps.now) c.args.step c.requires.small.some c.requires.opens);
}

pub returns-in_err-check_size-clause-stopped : goal.returns-in_err-check_size-clause-stopped
returns-in_err-check_size-clause-stopped g c =
    let y = g.S.Steps.system c.args.steps.now in
    let list = c.in_ok-list.list.items in
    let at = slice_get_read c.args.nodes.now _ c.args.from c.index-nodes-from.result refl (omega (arith, c.requires.alone)) c.index-nodes-from.is in
    let source = (c.requires.range c.args.from c.index-nodes-from.result at).0 (omega arith) in
    let are = list_are y c.args.step c.args.nodes.now list c.index-nodes-from.result c.args.from c.requires.opens c.requires.kept at source c.in_ok-list.ensures.listed in
    let stop = c.in_err-check_size.ensures.stopped list (omega arith)
    (rw (c.line_after_move-line.ensures, c.silents_after_move-silents.ensures) are)
    (rw (c.line_after_move-line.ensures, c.silents_after_move-silents.ensures) (together y c.args.step c.args.nodes.now list c.requires.kept are)) in
    search (rules, c.from_residual-in_err-check_size.ensures, stop, c.in_err-check_size.is)

pub returns-clause-grown : goal.returns-clause-grown
returns-clause-grown g c =
    let y = g.S.Steps.system c.args.steps.now in
    let list = c.in_ok-list.list.items in
    let at = slice_get_read c.args.nodes.now _ c.args.from c.index-nodes-from.result refl (omega (arith, c.requires.alone)) c.index-nodes-from.is in
    let size : c.len.result ≡ length list = omega arith in
    grown_alone y c.args.step c.args.nodes.now c.args.from list c.index-nodes-from.result c.requires.small.some c.requires.opens c.requires.range c.requires.kept c.requires.alone at
    c.in_ok-list.ensures.listed (rw size at c.in_ok-check_size.ensures.limit) (rw size at c.in_ok-check_size.ensures.total)
