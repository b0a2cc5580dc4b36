use Rattle.std.proofs.Common.{◌≡◌, ◌++◌, map}
use Rattle.eval_meanings.specs.Binders.{times}
use Rattle.eval_parts.proofs.bound_values.push_times.Given as goal

abbrev pub invariant-loop : goal.invariant-loop
invariant-loop l = map (λ x. x.now) l.lists.items ≡ map (λ x. x.now) l.initial.lists.items ++ times l.counter l.members
