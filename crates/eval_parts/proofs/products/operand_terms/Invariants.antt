use Rattle.std.proofs.Common.{◌≡◌, ◌++◌, ◌∷◌, map, drop}
use Rattle.eval_parts.proofs.products.operand_terms.Given as goal

abbrev pub invariant-loop-other : goal.invariant-loop-other
invariant-loop-other l = map (λ t. t.now) l.terms.items ++ map (λ x. x.value) (drop l.other-index l.others) ≡ l.first ∷ map (λ x. x.value) l.others
