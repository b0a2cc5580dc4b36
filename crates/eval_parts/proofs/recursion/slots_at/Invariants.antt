use Rattle.std.proofs.Common.{◌≡◌, ◌++◌, map, drop}
use Rattle.eval_parts.proofs.recursion.slots_at.Given as goal

abbrev pub invariant-loop-value : goal.invariant-loop-value
invariant-loop-value l = map (λ v. v.now) l.all.items ++ drop l.value-index l.values ≡ map (λ v. v.now) l.initial.all.items ++ l.values
