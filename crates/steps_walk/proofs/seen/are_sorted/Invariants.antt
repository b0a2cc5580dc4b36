use Rattle.std.proofs.Common.{◌≤◌, take}
use Rattle.std.specs.Prelude.{All}
use Rattle.std.specs.List.Sorted.{IsNonDecreasingBy}
use Rattle.steps_walk.proofs.Seeing.{of_see}
use Rattle.steps_walk.proofs.seen.are_sorted.Given as goal

abbrev pub invariant-loop-see : goal.invariant-loop-see
invariant-loop-see l = record {
  sorted : IsNonDecreasingBy of_see (take l.see-index l.sees);
  below : All (λ see. of_see see ≤ l.least) (take l.see-index l.sees);
}
