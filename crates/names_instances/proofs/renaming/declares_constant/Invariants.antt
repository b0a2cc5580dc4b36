use Rattle.std.proofs.Common.{◌≡◌, drop}
use Rattle.names_instances.specs.Instances.{declares}
use Rattle.names_instances.proofs.renaming.declares_constant.Given as goal

abbrev pub invariant-loop-constant : goal.invariant-loop-constant
invariant-loop-constant l = declares (drop l.constant-index l.constant-items) l.name ≡ declares l.constant-items l.name
