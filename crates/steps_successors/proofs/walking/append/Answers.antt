use Rattle.std.proofs.Common.{List, [], ◌∷◌, ◌++◌, ap, sym, ◌∙◌, append_assoc, length, arith}
use Rattle.std.specs.Vec.Iter.{into_iter_items}
use Rattle.eval_meanings.specs.Contexts.{Places}
use Rattle.steps_successors.proofs.Each.{all_left}
use Rattle.steps_successors.proofs.walking.append.Goals as goal

pub loop-places-preserved : goal.loop-places-preserved
loop-places-preserved c =
    let old = c.loop-places.found.items in
    let less = into_iter_items c.next.new.self in
    let step = c.in-Some.ensures.steps in
    record {
      items = ap (λ (us : List Places). us ++ less) c.in_ok-push.ensures.items ∙ append_assoc old (c.in-Some.places ∷ []) less ∙ ap (λ (us : List Places). old ++ us) (sym step.0) ∙ c.loop-places.invariant.items;
      len = omega (arith, step.1, c.loop-places.invariant.len, ap length step.0);
    }

pub returns : goal.returns
returns c =
    let over = sym c.loop-places.invariant.len ∙ c.in-None.ensures.steps.0 in
    all_left c.loop-places.found.items (into_iter_items c.loop-places.places-iterator) _ over c.loop-places.invariant.items
