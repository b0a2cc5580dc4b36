use Rattle.std.proofs.Common.{◌≡◌, ◌∙◌, ◌++◌, ◌+◌, ◌-◌, [], ◌∷◌, drop, take, sym, ap, refl, length, Some}
use Rattle.std.specs.List.{slice_get}
use Rattle.states_layers.proofs.LastLaws.{tail_at, take_more, links_take, reached_take, front_run, front_layer, last_list}
use Rattle.states_layers.proofs.AnswerLaws.{not_explained}
use Rattle.states_layers.proofs.last.unexplained.Goals as goal

pub expected-after-requires-clause-reached : goal.expected-after-requires-clause-reached
expected-after-requires-clause-reached g c =
    let y = g.S.Steps.system c.args.steps.now in
    let k = c.requires.stuck in
    let at = tail_at c.args.nodes.items c.in_ok-tail.tail.items c.args.start c.index.result.now k.whole.some c.in_ok-tail.ensures.tail c.index.ensures in
    rw c.in_ok-end.ensures (front_layer y c.args.line c.args.start c.args.line (y.within - 1) c.args.nodes.items c.index.result.now k.whole at k.kept.list)

pub read_back-requires-clause-links : goal.read_back-requires-clause-links
read_back-requires-clause-links g c =
    let y = g.S.Steps.system c.args.steps.now in
    let k = c.requires.stuck in
    let at = tail_at c.args.nodes.items c.in_ok-tail.tail.items c.args.start c.index.result.now k.whole.some c.in_ok-tail.ensures.tail c.index.ensures in
    rw (c.in_ok-push.ensures.items, c.in_ok-tail.ensures.items, c.in_ok-end.ensures, take_more c.args.nodes.items c.args.start c.index.result.now at)
    (links_take y c.args.nodes.items (c.args.start + 1) k.kept.links)

pub read_back-requires-clause-reached : goal.read_back-requires-clause-reached
read_back-requires-clause-reached g c =
    let y = g.S.Steps.system c.args.steps.now in
    let k = c.requires.stuck in
    let at = tail_at c.args.nodes.items c.in_ok-tail.tail.items c.args.start c.index.result.now k.whole.some c.in_ok-tail.ensures.tail c.index.ensures in
    rw (c.in_ok-push.ensures.items, c.in_ok-tail.ensures.items, c.in_ok-end.ensures, take_more c.args.nodes.items c.args.start c.index.result.now at)
    (reached_take y c.args.nodes.items (c.args.start + 1) c.args.line (y.within - 1) k.kept.list)

pub returns-clause-answered : goal.returns-clause-answered
returns-clause-answered g c =
    let y = g.S.Steps.system c.args.steps.now in
    let k = c.requires.stuck in
    let x = c.index.result.now in
    let at = tail_at c.args.nodes.items c.in_ok-tail.tail.items c.args.start x k.whole.some c.in_ok-tail.ensures.tail c.index.ensures in
    let ends = rw (c.in_ok-push.ensures.items, c.in_ok-tail.ensures.items, c.in_ok-end.ensures, take_more c.args.nodes.items c.args.start x at) at c.in_ok-behaviour.ensures in
    let told = rw c.in_ok-end.ensures at c.expected-after.ensures in
    rw c.count.ensures
    (not_explained y c.args.line c.args.start c.args.nodes.items c.in_ok-behaviour.behaviour c.requires.small.some c.requires.left k x.entry
    (front_run y c.args.line c.args.start c.args.nodes.items x c.in_ok-behaviour.behaviour k.whole at ends) c.expected-after.result told)

pub returns-clause-last : goal.returns-clause-last
returns-clause-last g c =
    last_list (g.S.Steps.system c.args.steps.now) c.args.line c.args.start c.args.nodes.items c.in_ok-tail.tail.items c.in_ok-last.last.items c.requires.small.some
    c.requires.stuck c.in_ok-tail.ensures.tail c.in_ok-last.ensures
