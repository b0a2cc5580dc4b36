use Rattle.std.proofs.Common.{subst, map, List}
use Rattle.std.specs.Prelude.{IfOk}
use Rattle.names_least_levels.specs.declared.told.NameLevel.{NameLevel}
use Rattle.names_least_levels.specs.Levels.{AreLeast}
use Rattle.names_found_levels.proofs.levels.levels_of.Goals as goal

pub returns : goal.returns
returns c = subst (λ (ns : List NameLevel). IfOk c.levels_among.result (λ bs. AreLeast ns (map (λ d. d.now) c.args.definitions.now) bs.items)) c.in_ok-known.ensures c.levels_among.ensures
