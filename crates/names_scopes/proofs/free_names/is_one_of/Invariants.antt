use Rattle.std.proofs.Common.{◌≡◌, drop}
use Rattle.names_scopes.specs.Mentions.{is_one_of}
use Rattle.names_scopes.proofs.free_names.is_one_of.Given as goal

abbrev pub invariant-loop-other : goal.invariant-loop-other
invariant-loop-other l = is_one_of l.name (drop l.other-index l.names) ≡ is_one_of l.name l.names
