use Rattle.std.proofs.Common.{◌≡◌, ◌<◌, ◌-◌, ℕ, suc, length, arith, refl, subst}
use Rattle.std.proofs.lemmas.Option.{slice_get_read}
use Rattle.states_core.specs.Runs.{Layer}
use Rattle.states_layers.proofs.Members.{get_in}
use Rattle.states_layers.proofs.BackLaws.{by_line, linked_within, mark_line}
use Rattle.states_layers.proofs.back.mark_of.Goals as goal

pub at-requires-clause-reached : goal.at-requires-clause-reached
at-requires-clause-reached g c =
    let y = g.S.Steps.system c.args.steps.now in
    let x = c.args.node.now in
    let z = c.index-nodes-node.result in
    let lt = linked_within y c.args.nodes.now x c.requires.linked (λ a b. c.if-node-eq0.false a) in
    let at = slice_get_read c.args.nodes.now _ x.from z refl lt c.index-nodes-node.is in
    let none : x.silents ≡ 0 = omega (arith, c.if-node-gt0.false) in
    let more : x.line ≡ suc (x.line - 1) = omega (arith, c.if-node-eq0.false) in
    let b = by_line y c.args.nodes.now x (x.line - 1) z c.requires.linked more none at in
    (z.silents, subst (λ (m : ℕ). Layer y m z.silents z.entry) b.line (c.requires.reached z (get_in c.args.nodes.now x.from z at)))

pub at-requires-clause-step : goal.at-requires-clause-step
at-requires-clause-step g c =
    let y = g.S.Steps.system c.args.steps.now in
    let x = c.args.node.now in
    let z = c.index-nodes-node.result in
    let lt = linked_within y c.args.nodes.now x c.requires.linked (λ a b. c.if-node-eq0.false a) in
    let at = slice_get_read c.args.nodes.now _ x.from z refl lt c.index-nodes-node.is in
    let none : x.silents ≡ 0 = omega (arith, c.if-node-gt0.false) in
    let more : x.line ≡ suc (x.line - 1) = omega (arith, c.if-node-eq0.false) in
    (by_line y c.args.nodes.now x (x.line - 1) z c.requires.linked more none at).step

pub returns : goal.returns
returns g c =
    let y = g.S.Steps.system c.args.steps.now in
    let x = c.args.node.now in
    let z = c.index-nodes-node.result in
    let lt = linked_within y c.args.nodes.now x c.requires.linked (λ a b. c.if-node-eq0.false a) in
    let at = slice_get_read c.args.nodes.now _ x.from z refl lt c.index-nodes-node.is in
    let none : x.silents ≡ 0 = omega (arith, c.if-node-gt0.false) in
    mark_line y c.args.nodes.now x z c.at.result at c.if-node-eq0.false none c.at.ensures
