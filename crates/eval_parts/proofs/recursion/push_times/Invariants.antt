use Rattle.std.proofs.Common.{◌≡◌, ◌++◌, map}
use Rattle.std.specs.Prelude.{replicate}
use Rattle.eval_parts.proofs.recursion.push_times.Given as goal

abbrev pub invariant-loop : goal.invariant-loop
invariant-loop l = map (λ x. x.now) l.sets.items ≡ map (λ x. x.now) l.initial.sets.items ++ replicate l.counter l.set
