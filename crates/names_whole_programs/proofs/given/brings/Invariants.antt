use Rattle.std.proofs.Common.{◌≡◌, drop}
use Rattle.names_instances.specs.Instances.{brings}
use Rattle.names_whole_programs.proofs.given.brings.Given as goal

abbrev pub invariant-loop-entry : goal.invariant-loop-entry
invariant-loop-entry l =
    brings (drop l.entry-index l.entries) l.name ≡ brings l.entries l.name
