use Rattle.std.proofs.Common.{◌≡◌, drop}
use Rattle.names_instances.specs.Instances.{declares}
use Rattle.names_whole_programs.proofs.given.declares.Given as goal

abbrev pub invariant-loop-declared : goal.invariant-loop-declared
invariant-loop-declared l =
    declares (drop l.declared-index l.declared-items) l.name ≡ declares l.declared-items l.name
