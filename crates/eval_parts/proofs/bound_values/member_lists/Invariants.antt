use Rattle.std.proofs.Common.{◌≡◌, ◌++◌, map, drop}
use Rattle.eval_meanings.specs.Binders.{ranges}
use Rattle.eval_parts.specs.BoundSets.{bound_members}
use Rattle.eval_parts.specs.Walks.{AllDiffer}
use Rattle.eval_parts.proofs.bound_values.member_lists.Given as goal

abbrev pub invariant-loop-set : goal.invariant-loop-set
invariant-loop-set l =
    (map (λ x. x.now) l.lists.items ++ ranges (map bound_members (drop l.set-index l.sets)) ≡ ranges (map bound_members l.sets)) × AllDiffer (map (λ x. x.now) l.lists.items)
