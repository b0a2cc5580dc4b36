use Rattle.std.proofs.Common.{◌≡◌, ◌++◌, map, drop}
use Rattle.eval_parts.proofs.bound_values.copies.Given as goal

abbrev pub invariant-loop-value : goal.invariant-loop-value
invariant-loop-value l = l.all.items ++ drop l.value-index (map (λ v. v.now) l.values) ≡ map (λ v. v.now) l.values
