use Rattle.std.proofs.Common.{◌≡◌, ◌++◌, map, drop}
use Rattle.names_terms.specs.TermViews.{bound_item}
use Rattle.eval_meanings.specs.Recursion.{sets_of_names}
use Rattle.eval_parts.proofs.recursion.sets_of_names.Given as goal

abbrev pub invariant-loop-bound : goal.invariant-loop-bound
invariant-loop-bound l =
    map (λ t. t.now) l.sets.items ++ sets_of_names (drop l.bound-index (map bound_item l.bound-items)) ≡ sets_of_names (map bound_item l.bound-items)
