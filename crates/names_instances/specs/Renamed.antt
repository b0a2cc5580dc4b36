-- For the prover: what a renaming of the code stands for.
use Rattle.std.specs.Prelude.{map}
use Rattle.names_instances.specs.Made.{StandIns, no_stand_ins}
use Rattle.names_instances.specs.Instances.{names_own, stand_ins}
use Rattle.names_instances.specs.declared.renaming.InstanceNames.{InstanceNames}
use Rattle.names_instances.specs.declared.renaming.Renaming.{Renaming}
use Rattle.names_instances.specs.declared.renaming.Renaming.TheVariants.{Nothing, Instance}

abbrev pub instance_names : InstanceNames → StandIns
instance_names r = stand_ins r.instance.now (map (λ d. d.now) r.variables.items) (names_own r.units.now) r.with.now r.standard.items

abbrev pub renamed : Renaming → StandIns
renamed Nothing = no_stand_ins
renamed (Instance r) = instance_names r
