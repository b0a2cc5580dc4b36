use Rattle.std.proofs.Common.{◌≡◌, ◌≤◌, ◌<◌, ◌+◌, ◌-◌, List, length, get_or, map, refl, sym, ◌∙◌, arith}
use Rattle.std.proofs.lemmas.List.{length-map}
use Rattle.values_core.specs.Data.{Val}
use Rattle.eval_parts.proofs.Loops.{cut_at, cut_mapped}
use Rattle.eval_parts.proofs.Walking.{places_length, seen, turned_first, turned_on, was_last, went_on}
use Rattle.eval_parts.proofs.bound_values.next_places.Goals as goal
use denote.Ref.{Bor}

abbrev members : Bor (List Val) → List Val
members x = x.now

pub loop-index-init : goal.loop-index-init
loop-index-init c =
    let same = sym (length-map c.args.lists.now members) ∙ sym (places_length (map members c.args.lists.now) c.args.places.now c.requires) in
    (turned_first (map members c.args.lists.now) c.args.places.now c.requires, omega arith, same)

pub next_place-requires : goal.next_place-requires
next_place-requires c =
    let lists = c.args.lists.now in
    let now = c.loop-index.places in
    let k = c.loop-index.index - 1 in
    let end : c.loop-index.index ≡ (c.loop-index.index - 1) + 1 = omega (arith, c.loop-index-test.true) in
    let below : c.loop-index.index - 1 < length c.args.lists.now = omega (arith, c.loop-index-test.true, c.loop-index.invariant.1, c.loop-index.invariant.2) in
    let cut = cut_mapped members lists k c.index-lists-index.result (cut_at lists k c.index-lists-index.result below c.index-lists-index.is) in
    (seen (map members lists) c.args.places.now now c.loop-index.index k c.index-lists-index.result.now (get_or now k 0) c.loop-index.invariant.0 end cut refl).inside

pub returns-in-Some-clause-left : goal.returns-in-Some-clause-left
returns-in-Some-clause-left c =
    let lists = c.args.lists.now in
    let now = c.loop-index.places in
    let k = c.loop-index.index - 1 in
    let end : c.loop-index.index ≡ (c.loop-index.index - 1) + 1 = omega (arith, c.loop-index-test.true) in
    let below : c.loop-index.index - 1 < length c.args.lists.now = omega (arith, c.loop-index-test.true, c.loop-index.invariant.1, c.loop-index.invariant.2) in
    let cut = cut_mapped members lists k c.index-lists-index.result (cut_at lists k c.index-lists-index.result below c.index-lists-index.is) in
    let there = seen (map members lists) c.args.places.now now c.loop-index.index k c.index-lists-index.result.now (get_or now k 0) c.loop-index.invariant.0 end cut refl in
    (went_on (map members lists) c.args.places.now now c.loop-index.index k c.index-lists-index.result.now (get_or now k 0) c.in-Some.next there c.loop-index.invariant.0 end c.in-Some.ensures.0 c.in-Some.ensures.1).0

pub returns-in-Some-clause-within : goal.returns-in-Some-clause-within
returns-in-Some-clause-within c =
    let lists = c.args.lists.now in
    let now = c.loop-index.places in
    let k = c.loop-index.index - 1 in
    let end : c.loop-index.index ≡ (c.loop-index.index - 1) + 1 = omega (arith, c.loop-index-test.true) in
    let below : c.loop-index.index - 1 < length c.args.lists.now = omega (arith, c.loop-index-test.true, c.loop-index.invariant.1, c.loop-index.invariant.2) in
    let cut = cut_mapped members lists k c.index-lists-index.result (cut_at lists k c.index-lists-index.result below c.index-lists-index.is) in
    let there = seen (map members lists) c.args.places.now now c.loop-index.index k c.index-lists-index.result.now (get_or now k 0) c.loop-index.invariant.0 end cut refl in
    λ h. (went_on (map members lists) c.args.places.now now c.loop-index.index k c.index-lists-index.result.now (get_or now k 0) c.in-Some.next there c.loop-index.invariant.0 end c.in-Some.ensures.0 c.in-Some.ensures.1).1

pub loop-index-preserved : goal.loop-index-preserved
loop-index-preserved c =
    let lists = c.args.lists.now in
    let now = c.loop-index.places in
    let k = c.loop-index.index - 1 in
    let end : c.loop-index.index ≡ (c.loop-index.index - 1) + 1 = omega (arith, c.loop-index-test.true) in
    let below : c.loop-index.index - 1 < length c.args.lists.now = omega (arith, c.loop-index-test.true, c.loop-index.invariant.1, c.loop-index.invariant.2) in
    let cut = cut_mapped members lists k c.index-lists-index.result (cut_at lists k c.index-lists-index.result below c.index-lists-index.is) in
    let there = seen (map members lists) c.args.places.now now c.loop-index.index k c.index-lists-index.result.now (get_or now k 0) c.loop-index.invariant.0 end cut refl in
    let turned = turned_on (map members lists) c.args.places.now now c.loop-index.index k c.index-lists-index.result.now (get_or now k 0) there c.loop-index.invariant.0 end c.in-None.ensures in
    (turned, omega (arith, turned.below, turned.many), c.loop-index.invariant.2 ∙ c.loop-index.invariant.0.many ∙ sym turned.many)

pub returns-clause-left : goal.returns-clause-left
returns-clause-left c =
    let zero_end : c.loop-index.index ≡ 0 = omega (arith, c.loop-index-test.false) in
    was_last (map members c.args.lists.now) c.args.places.now c.loop-index.places c.loop-index.index zero_end c.loop-index.invariant.0
