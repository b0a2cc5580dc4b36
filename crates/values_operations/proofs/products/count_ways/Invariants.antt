use Rattle.std.proofs.Common.{take}
use Rattle.values_operations.specs.Counts.{ways}
use Rattle.values_operations.specs.PartList.{part_list}
use Rattle.values_operations.proofs.Taking.{IsLimited}
use Rattle.values_operations.proofs.products.count_ways.Given as goal

abbrev pub invariant-loop-i : goal.invariant-loop-i
invariant-loop-i l = IsLimited l.count (ways (take l.i (part_list l.parts)))
