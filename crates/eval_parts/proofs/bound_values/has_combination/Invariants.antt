use Rattle.std.proofs.Common.{◌↔◌, map, drop}
use Rattle.eval_parts.specs.Walks.{AreWithin, first_places}
use Rattle.eval_parts.proofs.bound_values.has_combination.Given as goal

abbrev pub invariant-loop-list : goal.invariant-loop-list
invariant-loop-list l =
    AreWithin (map (λ x. x.now) (drop l.list-index l.lists)) (first_places (map (λ x. x.now) (drop l.list-index l.lists))) ↔ AreWithin (map (λ x. x.now) l.lists) (first_places (map (λ x. x.now) l.lists))
