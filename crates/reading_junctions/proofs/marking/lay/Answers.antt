use Rattle.std.proofs.Common.{length, sym, ap, ◌∙◌, arith}
use Rattle.std.specs.Vec.Iter.{into_iter_items}
use Rattle.reading_junctions.proofs.Steps.{done_more, left_at, all_done, no_length}
use Rattle.reading_junctions.proofs.marking.lay.Goals as goal

pub returns-then-is_left : goal.returns-then-is_left
returns-then-is_left c =
    left_at c.args.tokens.items (into_iter_items c.loop-token.token-iterator) (into_iter_items c.next.new.self) c.in-Some.token c.loop-token.marking c.in-Some.ensures.steps.0 c.loop-token.invariant.done
    (sym c.is_left.ensures ∙ c.if-is_left.true)

pub loop-token-preserved : goal.loop-token-preserved
loop-token-preserved c =
    let steps = c.in-Some.ensures.steps in
    record {
      done = done_more c.args.tokens.items (into_iter_items c.loop-token.token-iterator) (into_iter_items c.next.new.self) c.in-Some.token c.loop-token.marking _ _ steps.0 c.loop-token.invariant.done c.in_ok-end_lists.ensures c.in_ok-mark.ensures;
      len = omega (arith, steps.1, c.loop-token.invariant.len, ap length steps.0);
    }

pub returns : goal.returns
returns c =
    all_done c.args.tokens.items (into_iter_items c.loop-token.token-iterator) c.loop-token.marking (no_length (into_iter_items c.loop-token.token-iterator) (sym c.loop-token.invariant.len ∙ c.in-None.ensures.steps.0)) c.loop-token.invariant.done c.requires
