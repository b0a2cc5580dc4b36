use Rattle.std.proofs.Common.{◌≡◌, length}
use Rattle.std.specs.Vec.Iter.{into_iter_items, into_iter_len}
use Rattle.values_sets.specs.DescribedSets.{parts_list}
use Rattle.values_sets.specs.Soundness.{PartsAreSound}
use Rattle.eval_meanings.specs.Sets.{set_at}
use Rattle.eval_parts.specs.ReadyParts.{AreReady}
use Rattle.eval_parts.proofs.ProductLemmas.{EachBefore}
use Rattle.eval_parts.proofs.products.product_of.Given as goal

abbrev pub invariant-loop-at : goal.invariant-loop-at
invariant-loop-at l = record {
  told : EachBefore (λ d. set_at d.0 d.1) l.fn.described.items (into_iter_items l.at-iterator) (parts_list l.parts);
  ready : AreReady (into_iter_items l.at-iterator);
  sound : PartsAreSound l.parts;
  len : into_iter_len l.at-iterator ≡ length (into_iter_items l.at-iterator);
}
