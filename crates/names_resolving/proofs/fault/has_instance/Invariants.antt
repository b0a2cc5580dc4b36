use Rattle.std.proofs.Common.{◌≡◌, drop}
use Rattle.names_scopes.specs.Mentions.{is_one_of}
use Rattle.names_resolving.specs.Refusals.{instance_names}
use Rattle.names_resolving.proofs.fault.has_instance.Given as goal

abbrev pub invariant-loop-unit : goal.invariant-loop-unit
invariant-loop-unit l = is_one_of l.name (instance_names (drop l.unit-index l.unit-items)) ≡ is_one_of l.name (instance_names l.unit-items)
