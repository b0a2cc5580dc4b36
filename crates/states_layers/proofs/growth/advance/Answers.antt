use Rattle.std.proofs.Common.{◌≡◌, ◌+◌, ◌-◌, ◌≤◌, ◌∙◌, length, ap, arith, ℕ}
use Rattle.std.proofs.lemmas.List.{length-append}
use Rattle.states_layers.specs.Kept.{nodes_of}
use Rattle.states_layers.specs.Moves.{line_after, silents_after}
use Rattle.states_layers.proofs.KeptLaws.{kept_step, long_new}
use Rattle.states_layers.proofs.growth.advance.Goals as goal

pub returns-clause-kept : goal.returns-clause-kept
returns-clause-kept g c =
    let y = g.S.Steps.system c.args.steps.now in
    let added = c.in_ok-add_layer.ensures.added in
    let old = c.args.nodes.now.items in
    let new = nodes_of (line_after c.args.step) (silents_after c.args.step) added.layer in
    let long : length c.add_layer.new.nodes.items ≡ length old + length added.layer =
    ap length added.is ∙ length-append old new ∙ ap (λ (n : ℕ). length old + n) (long_new (line_after c.args.step) (silents_after c.args.step) added.layer) in
    let grown : c.len-behind.result - c.len-held.result ≡ length added.layer = omega (arith, long) in
    let size : length added.layer ≤ c.greater.result = omega (arith, c.greater.ensures.second, grown) in
    rw added.is
    (kept_step y c.args.step old added.layer c.args.widest c.requires.small.some c.requires.opens c.requires.kept added.grown c.greater.result
    (c.greater.ensures.first, size, rw grown at c.greater.ensures.either))

pub returns-clause-behind : goal.returns-clause-behind
returns-clause-behind g c = let added = c.in_ok-add_layer.ensures.added in record { added = added.layer; is = added.is; list = added.grown.list }
