use Rattle.std.proofs.Common.{◌≡◌, ◌++◌, drop}
use Rattle.names_found_levels.proofs.Items.{names_bound}
use Rattle.names_found_levels.proofs.around.Around.push_bounds.Given as goal

abbrev pub invariant-loop-bound : goal.invariant-loop-bound
invariant-loop-bound l = l.self ++ names_bound (drop l.bound-index l.bound-items) ≡ l.initial.self ++ names_bound l.bound-items
