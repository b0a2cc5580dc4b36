use Rattle.std.proofs.Common.{◌≡◌, ◌∙◌, ◌++◌, sym, IsTrue, false, true, rules, arith, length, ◌-◌, [], ◌∷◌, ap, option_to_list}
use Rattle.states_layers.specs.Kept.{IsMark}
use Rattle.states_layers.proofs.BackLaws.{back_more, back_end}
use Rattle.states_layers.proofs.back.read_back.Goals as goal

pub returns-then-first : goal.returns-then-first
returns-then-first g c =
    let y = g.S.Steps.system c.args.steps.now in
    let z = c.unwrap-node.result in
    let e : c.loop-states.nodes.items ≡ c.pop.new.self.items ++ z ∷ [] = c.pop.ensures.items ∙ ap (λ o. c.pop.new.self.items ++ option_to_list o) c.unwrap-node.ensures in
    let m : IsMark y c.pop.new.self.items z c.mark_of-mark.result = rw c.deref.ensures.value at c.mark_of-mark.ensures in
    let shows : y.state_of z.entry ≡ c.into_state.result = g.met.S.Steps.shows c.args.steps.now z.entry ∙ sym c.into_state.ensures in
    let first = c.is_first-first.ensures.0 c.if-first.true in
    rw (c.reverse.ensures, c.in_ok-push.ensures.ok)
    (back_end y c.args.nodes.items c.loop-states.nodes.items c.pop.new.self.items z c.mark_of-mark.result c.into_state.result c.loop-states.states c.requires.links
    c.loop-states.invariant.prefix e m shows first.0 first.1 c.loop-states.invariant.back)

pub loop-states-preserved : goal.loop-states-preserved
loop-states-preserved g c =
    let y = g.S.Steps.system c.args.steps.now in
    let z = c.unwrap-node.result in
    let e : c.loop-states.nodes.items ≡ c.pop.new.self.items ++ z ∷ [] = c.pop.ensures.items ∙ ap (λ o. c.pop.new.self.items ++ option_to_list o) c.unwrap-node.ensures in
    let m : IsMark y c.pop.new.self.items z c.mark_of-mark.result = rw c.deref.ensures.value at c.mark_of-mark.ensures in
    let shows : y.state_of z.entry ≡ c.into_state.result = g.met.S.Steps.shows c.args.steps.now z.entry ∙ sym c.into_state.ensures in
    let more = back_more y c.args.nodes.items c.loop-states.nodes.items c.pop.new.self.items (length c.args.nodes.items - 1) z c.mark_of-mark.result c.into_state.result
    c.loop-states.states c.requires.links c.loop-states.invariant.prefix e m shows
    (λ a b. let yes : IsTrue c.is_first-first.result = c.is_first-first.ensures.1 (a, b) in let none : c.is_first-first.result ≡ false = c.if-first.false in grind arith)
    c.loop-states.invariant.back in
    rw (c.keep_first.ensures, c.in_ok-push.ensures.ok) (record { prefix = more.prefix; some = more.some; back = more.back })
