use Rattle.std.proofs.Common.{◌≡◌, drop, map}
use Rattle.std.specs.Borrow.{Bor}
use Rattle.reading_trees.specs.declared.expr.Definition.{Definition}
use Rattle.names_tables.specs.NameFaults.{declared_complaints}
use Rattle.names_tables.proofs.declaring.declared_fault.Given as goal

abbrev pub invariant-loop-operator : goal.invariant-loop-operator
invariant-loop-operator l =
    declared_complaints (map (λ (d : Bor Definition). d.now) l.definitions) (drop l.operator-index l.operator-items) ≡ declared_complaints (map (λ (d : Bor Definition). d.now) l.definitions) l.operator-items
