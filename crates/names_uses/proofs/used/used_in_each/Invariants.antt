use Rattle.std.proofs.Common.{◌++◌, drop, map, List, ℕ}
use Rattle.std.specs.Borrow.{Bor}
use Rattle.reading_trees.specs.declared.expr.Definition.{Definition}
use Rattle.names_uses.specs.UsedNames.{AreUsed}
use Rattle.base_use_order.specs.Uses.{table_of}
use Rattle.names_uses.proofs.used.used_in_each.Given as goal

abbrev pub invariant-loop-definition : goal.invariant-loop-definition
invariant-loop-definition l =
    (rest : List (List ℕ)) → AreUsed l.names (map (λ (d : Bor Definition). d.now) (drop l.definition-index l.definitions)) rest → AreUsed l.names (map (λ (d : Bor Definition). d.now) l.definitions) (table_of l.uses.items ++ rest)
