use Rattle.std.proofs.Common.{◌≡◌, take, map}
use Rattle.steps_why_branches.proofs.sparing.lent_copies.Given as goal

abbrev pub invariant-loop-value : goal.invariant-loop-value
invariant-loop-value l = l.all.items ≡ map (λ v. v.now) (take l.value-index l.values)
