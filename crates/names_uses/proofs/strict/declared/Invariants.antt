use Rattle.std.proofs.Common.{◌≡◌, ◌++◌, drop, map}
use Rattle.std.specs.Borrow.{Bor}
use Rattle.reading_trees.specs.declared.expr.Definition.{Definition}
use Rattle.names_uses.proofs.StrictLemmas.{declares}
use Rattle.names_uses.proofs.strict.declared.Given as goal

abbrev pub invariant-loop-definition : goal.invariant-loop-definition
invariant-loop-definition l =
    l.marks.items ++ map (λ (d : Bor Definition). declares l.program d.now) (drop l.definition-index l.definitions) ≡ map (λ (d : Bor Definition). declares l.program d.now) l.definitions
