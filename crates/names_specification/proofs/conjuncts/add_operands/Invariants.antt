use Rattle.std.proofs.Common.{◌≡◌, ◌++◌, drop, map}
use Rattle.std.specs.Borrow.{Bor}
use Rattle.reading_trees.specs.Trees.{Tree}
use Rattle.reading_trees.specs.declared.expr.Operand.{Operand}
use Rattle.names_specification.proofs.conjuncts.add_operands.Given as goal

abbrev pub invariant-loop-operand : goal.invariant-loop-operand
invariant-loop-operand l =
    map (λ (e : Bor Tree). e.now) l.found.items ++ map (λ (o : Operand). o.value) (drop l.operand-index l.others)
    ≡ map (λ (e : Bor Tree). e.now) l.initial.found.items ++ map (λ (o : Operand). o.value) l.others
