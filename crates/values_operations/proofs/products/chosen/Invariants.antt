use Rattle.std.proofs.Common.{◌≡◌, ◌++◌, ◌<◌, drop}
use Rattle.std.specs.List.{zip}
use Rattle.values_operations.specs.Choices.{choice}
use Rattle.values_operations.specs.Counts.{ways}
use Rattle.values_operations.specs.PartList.{part_list}
use Rattle.values_operations.proofs.products.chosen.Given as goal

abbrev pub invariant-loop-i : goal.invariant-loop-i
invariant-loop-i l = record {
  below : l.rest < ways (drop l.i (part_list l.parts));
  kept : l.pairs.items ++ zip (drop l.i l.keys) (choice (drop l.i (part_list l.parts)) l.rest) ≡ zip l.keys (choice (part_list l.parts) l.number);
}
