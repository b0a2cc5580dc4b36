use Rattle.std.proofs.Common.{◌≡◌, ◌<◌, ◌≤◌, List, length, map, refl, arith}
use Rattle.names_terms.specs.Terms.{Term}
use Rattle.eval_meanings.specs.Unchanged.{unchanged_of}
use Rattle.eval_parts.proofs.Loops.{cut_at, of_items}
use Rattle.actions_rows.specs.Rows.{part_term}
use Rattle.actions_rows.proofs.PartLists.{parts_end, parts_on}
use Rattle.actions_rows.proofs.part.unchanged_parts.Goals as goal

pub loop-term-preserved : goal.loop-term-preserved
loop-term-preserved c =
    let xs = c.items-term-items.result.now in
    let i = c.loop-term.term-index in
    let at = c.args.at in
    let below : c.loop-term.term-index < length c.items-term-items.result.now = omega arith in
    let cut = cut_at xs i c.term-item.result below c.term-item.is in
    parts_on (map (unchanged_of at)) c.term-item.result (unchanged_of at c.term-item.result) xs i c.loop-term.parts.items c.push.new.self.items _ (map (unchanged_of at) xs) cut refl refl c.in_ok-push.ensures.items c.loop-term.invariant

pub returns : goal.returns
returns c =
    let xs = c.items-term-items.result.now in
    let at = c.args.at in
    let passed : length c.items-term-items.result.now ≤ c.loop-term.term-index = omega arith in
    of_items (λ (es : List Term). map part_term c.loop-term.parts.items ≡ map (unchanged_of at) es) xs c.args.terms.now c.items-term-items.ensures (parts_end (map (unchanged_of at)) xs c.loop-term.term-index c.loop-term.parts.items (map (unchanged_of at) xs) refl passed c.loop-term.invariant)
