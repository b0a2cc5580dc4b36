use Rattle.std.proofs.Common.{List, [], ◌∷◌, ◌++◌, ap, sym, ◌∙◌, append_assoc, length, arith}
use Rattle.std.specs.Vec.Iter.{into_iter_items}
use Rattle.steps_why_branches.specs.declared.why.Ended.{Ended}
use Rattle.steps_why_walk.proofs.Keeping.{all_left}
use Rattle.steps_why_walk.proofs.ends.append.Goals as goal

pub loop-end-preserved : goal.loop-end-preserved
loop-end-preserved c =
    let old = c.loop-end.all.items in
    let less = into_iter_items c.next.new.self in
    let step = c.in-Some.ensures.steps in
    record {
      items = ap (λ (us : List Ended). us ++ less) c.in_ok-push.ensures.items ∙ append_assoc old (c.in-Some.end ∷ []) less ∙ ap (λ (us : List Ended). old ++ us) (sym step.0) ∙ c.loop-end.invariant.items;
      len = omega (arith, step.1, c.loop-end.invariant.len, ap length step.0);
    }

pub returns : goal.returns
returns c =
    let over = sym c.loop-end.invariant.len ∙ c.in-None.ensures.steps.0 in
    all_left c.loop-end.all.items (into_iter_items c.loop-end.end-iterator) _ over c.loop-end.invariant.items
