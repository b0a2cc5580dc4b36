use Rattle.std.proofs.Common.{subst, length, ◌<◌, ◌≤◌, arith}
use Rattle.std.proofs.lemmas.List.Elements.{All-more}
use Rattle.names_terms.specs.Terms.{Term}
use Rattle.eval_meanings.specs.Laws.{KnowsValues}
use Rattle.eval_known.proofs.Listed.{all_there, all_listed}
use Rattle.eval_known.proofs.spec.knows_terms.Goals as goal

pub loop-term-preserved : goal.loop-term-preserved
loop-term-preserved c =
    let below : c.loop-term.term-index < length c.items-term-items.result.now = omega arith in
    All-more KnowsValues c.items-term-items.result.now c.loop-term.term-index c.term-item.result below c.loop-term.invariant
    (subst (λ (t : Term). KnowsValues t) c.term-item.is c.in_ok-knows_values.ensures)

pub returns : goal.returns
returns c =
    let passed : length c.items-term-items.result.now ≤ c.loop-term.term-index = omega arith in
    all_listed KnowsValues c.items-term-items.result.now c.args.terms.now c.items-term-items.ensures
    (all_there KnowsValues c.items-term-items.result.now c.loop-term.term-index passed c.loop-term.invariant)
