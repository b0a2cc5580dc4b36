use Rattle.std.proofs.Common.{◌≡◌, ◌++◌, length, map, drop}
use Rattle.eval_parts.specs.Walks.{at_places}
use Rattle.eval_parts.proofs.bound_values.push_chosen.Given as goal

abbrev pub invariant-loop-index : goal.invariant-loop-index
invariant-loop-index l =
    (map (λ v. v.now) l.values.items ++ at_places (drop l.index (map (λ x. x.now) l.lists)) (drop l.index l.places) ≡ map (λ v. v.now) l.initial.values.items ++ at_places (map (λ x. x.now) l.lists) l.places)
    × (length l.lists ≡ length l.places)
