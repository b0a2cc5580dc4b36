use Rattle.std.proofs.Common.{◌≡◌, ◌++◌, drop}
use Rattle.names_instances.proofs.bound_names.BoundNames.push_all.Given as goal

abbrev pub invariant-loop-name : goal.invariant-loop-name
invariant-loop-name l = l.self ++ drop l.name-index l.names ≡ l.initial.self ++ l.names
