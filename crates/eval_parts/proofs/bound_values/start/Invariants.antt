use Rattle.std.proofs.Common.{◌≡◌, ◌++◌, map, drop}
use Rattle.eval_parts.specs.Walks.{first_places}
use Rattle.eval_parts.proofs.bound_values.start.Given as goal

abbrev pub invariant-loop : goal.invariant-loop
invariant-loop l = l.places.items ++ first_places (drop l.index (map (λ x. x.now) l.lists)) ≡ first_places (map (λ x. x.now) l.lists)
