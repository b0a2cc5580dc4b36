use Rattle.std.proofs.Common.{◌≡◌, ◌<◌, ◌++◌, ◌∷◌, [], List, length, get_or, map, refl, ap, sym, ◌∙◌, arith}
use Rattle.std.proofs.lemmas.List.{length-map, map-append}
use Rattle.values_core.specs.Data.{Val}
use Rattle.eval_parts.specs.Walks.{at_places}
use Rattle.eval_parts.proofs.Loops.{cut_at, cut_mapped}
use Rattle.eval_parts.proofs.Walking.{chosen_more, member_there, places_length}
use Rattle.eval_parts.proofs.bound_values.push_chosen.Goals as goal
use denote.Ref.{Bor}

abbrev members : Bor (List Val) → List Val
members x = x.now

abbrev value : Bor Val → Val
value x = x.now

pub loop-index-init : goal.loop-index-init
loop-index-init c =
    (refl, sym (length-map c.args.lists.now members) ∙ sym (places_length (map members c.args.lists.now) c.args.places.now c.requires))

pub member_at-requires : goal.member_at-requires
member_at-requires c =
    let lists = c.args.lists.now in
    let k = c.loop-index.index in
    let below : c.loop-index.index < length c.args.lists.now = omega (arith, c.loop-index-test.true) in
    let inside : c.loop-index.index < length c.args.places.now = omega (arith, below, c.loop-index.invariant.1) in
    let cut = cut_mapped members lists k c.index-lists-index.result (cut_at lists k c.index-lists-index.result below c.index-lists-index.is) in
    member_there k (map members lists) c.args.places.now c.index-lists-index.result.now c.requires cut inside

pub loop-index-preserved : goal.loop-index-preserved
loop-index-preserved c =
    let lists = c.args.lists.now in
    let places = c.args.places.now in
    let k = c.loop-index.index in
    let below : c.loop-index.index < length c.args.lists.now = omega (arith, c.loop-index-test.true) in
    let inside : c.loop-index.index < length c.args.places.now = omega (arith, below, c.loop-index.invariant.1) in
    let cut = cut_mapped members lists k c.index-lists-index.result (cut_at lists k c.index-lists-index.result below c.index-lists-index.is) in
    let pushed = ap (map value) c.in_ok-push.ensures.items ∙ map-append value c.loop-index.values.items (c.member_at.result ∷ []) in
    (chosen_more k (map members lists) places c.index-lists-index.result.now c.member_at.result.now (map value c.loop-index.values.items) (map value c.push.new.self.items) (map value c.args.values.now.items ++ at_places (map members lists) places) cut inside c.member_at.ensures pushed c.loop-index.invariant.0, c.loop-index.invariant.1)
