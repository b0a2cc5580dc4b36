use Rattle.std.proofs.Common.{◌≡◌, length, map}
use Rattle.std.specs.List.{All}
use Rattle.std.specs.Vec.Iter.{into_iter_items, into_iter_len}
use Rattle.values_sets.specs.DescribedSets.{fields_list}
use Rattle.eval_meanings.specs.Answers.{IsReady}
use Rattle.eval_parts.specs.ChangePaths.{SetOfField, part_item}
use Rattle.eval_parts.proofs.RecordSets.{EachLeft, ListIsSound}
use Rattle.eval_parts.proofs.field_sets.sound_fields.Given as goal

abbrev pub invariant-loop-part : goal.invariant-loop-part
invariant-loop-part l = record {
  so_far : EachLeft SetOfField (map part_item l.fn.parts.items) (map part_item (into_iter_items l.part-iterator)) (fields_list l.fields);
  ready : All (λ p. IsReady p.set) (into_iter_items l.part-iterator);
  sound : ListIsSound (fields_list l.fields);
  len : into_iter_len l.part-iterator ≡ length (into_iter_items l.part-iterator);
}
