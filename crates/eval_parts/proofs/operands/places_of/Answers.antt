use Rattle.std.proofs.Common.{◌≡◌, ◌<◌, ◌≤◌, ◌++◌, ◌∷◌, [], List, length, map, ap, ◌∙◌, arith}
use Rattle.names_terms.specs.Terms.{Term, place_of}
use Rattle.eval_parts.proofs.Loops.{cut_at, of_items, places_on, places_end}
use Rattle.eval_parts.proofs.operands.places_of.Goals as goal

pub loop-term-preserved : goal.loop-term-preserved
loop-term-preserved c =
    let xs = c.items-term-items.result.now in
    let below : c.loop-term.term-index < length c.items-term-items.result.now = omega arith in
    places_on xs c.loop-term.term-index c.term-item.result c.loop-term.places.items _ (cut_at xs c.loop-term.term-index c.term-item.result below c.term-item.is) (c.in_ok-push.ensures ∙ ap (λ p. c.loop-term.places.items ++ p ∷ []) c.place_at.ensures) c.loop-term.invariant

pub returns : goal.returns
returns c =
    let xs = c.items-term-items.result.now in
    let passed : length c.items-term-items.result.now ≤ c.loop-term.term-index = omega arith in
    of_items (λ (es : List Term). c.loop-term.places.items ≡ map place_of es) xs c.args.terms.now c.items-term-items.ensures (places_end xs c.loop-term.term-index c.loop-term.places.items passed c.loop-term.invariant)
