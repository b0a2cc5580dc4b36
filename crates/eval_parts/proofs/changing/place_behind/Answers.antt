use Rattle.std.proofs.Common.{◌≡◌, ◌∙◌, ◌-◌, ap, suc, length, sym, arith}
use Rattle.names_terms.specs.Terms.{place_of}
use Rattle.names_terms.specs.declared.term.StepAt.{StepAt}
use Rattle.eval_parts.proofs.StepWalk.{last_place, no_place}
use Rattle.eval_parts.proofs.changing.place_behind.Goals as goal

pub returns-then-count-eq0 : goal.returns-then-count-eq0
returns-then-count-eq0 c = ap place_of c.base.view_is ∙ no_place (place_of c.args.base.now) c.items-items.result.now c.args.steps.now c.items-items.ensures c.if-count-eq0.true

pub returns : goal.returns
returns c =
    let i = length c.items-items.result.now - 1 in
    let many : length c.items-items.result.now ≡ suc (length c.items-items.result.now - 1) = omega (arith, c.if-count-eq0.false) in
    sym (ap (λ (x : StepAt). x.at) c.index-items-count.is) ∙ last_place (place_of c.args.base.now) c.items-items.result.now c.args.steps.now c.index-items-count.result i c.items-items.ensures many c.index-items-count.is
