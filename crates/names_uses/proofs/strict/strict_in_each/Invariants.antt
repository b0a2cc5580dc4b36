use Rattle.std.proofs.Common.{◌++◌, drop, map, List, ℕ}
use Rattle.std.specs.Borrow.{Bor}
use Rattle.reading_trees.specs.declared.expr.Definition.{Definition}
use Rattle.names_uses.specs.StrictNames.{AreStrict}
use Rattle.base_use_order.specs.Uses.{table_of}
use Rattle.names_uses.proofs.strict.strict_in_each.Given as goal

abbrev pub invariant-loop-index : goal.invariant-loop-index
invariant-loop-index l =
    (rest : List (List ℕ)) → AreStrict l.marks l.names l.index (map (λ (d : Bor Definition). d.now) (drop l.index l.definitions)) rest → AreStrict l.marks l.names 0 (map (λ (d : Bor Definition). d.now) l.definitions) (table_of l.uses.items ++ rest)
