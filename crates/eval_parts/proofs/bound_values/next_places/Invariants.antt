use Rattle.std.proofs.Common.{◌≡◌, ◌≤◌, length, map}
use Rattle.eval_parts.proofs.Walking.{Turned}
use Rattle.eval_parts.proofs.bound_values.next_places.Given as goal

abbrev pub invariant-loop-index : goal.invariant-loop-index
invariant-loop-index l = Turned (map (λ x. x.now) l.lists) l.initial.places l.places l.index × (l.index ≤ length l.places) × (length l.lists ≡ length l.places)

abbrev pub decreases-loop-index : goal.decreases-loop-index
decreases-loop-index l = l.index
