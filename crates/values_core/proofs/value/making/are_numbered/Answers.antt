use Rattle.std.proofs.Common.{◌≡◌, ◌+◌, get_or, pos, refl, ap, ◌∙◌, arith}
use Rattle.values_core.specs.Data.{Val, integer, function}
use Rattle.values_core.proofs.SequenceLemmas.{numbered_by_places, places_of_numbered, tree_of_sequence}
use Rattle.values_core.proofs.value.making.are_numbered.Goals as goal

pub returns : goal.returns
returns c = (
  λ t. ap function (numbered_by_places 1 c.args.pairs.now.items (λ k m d is l. c.loop-i.invariant k d (omega arith) ∙ ap (λ j. integer (pos j)) (let z : k + 1 ≡ m = omega arith in z))),
  λ e. refl,
)

pub returns-then-not-is_place : goal.returns-then-not-is_place
returns-then-not-is_place c = (
  λ t. cc,
  λ e.
      let there : (get_or c.args.pairs.now.items c.loop-i.i c.index-pair.result.now).0 ≡ integer (pos (c.loop-i.i + 1)) =
      places_of_numbered 1 c.args.pairs.now.items _ c.loop-i.i (c.loop-i.i + 1) c.index-pair.result.now (omega arith) (tree_of_sequence _ _ e) (omega arith) in
      let here : c.index-pair.result.now.0 ≡ integer (pos (c.loop-i.i + 1)) = ap (λ (x : Val × Val). x.0) c.index-pair.ensures ∙ there in
      c.if-not-is_place.ensures.1 here,
)
