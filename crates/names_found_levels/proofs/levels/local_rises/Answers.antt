use Rattle.std.proofs.Common.{◌≡◌, subst, [], List}
use Rattle.std.specs.Prelude.{IfOk}
use Rattle.names_least_levels.specs.declared.told.NameLevel.{NameLevel}
use Rattle.names_least_levels.specs.Levels.{names_rise}
use Rattle.names_least_levels.specs.Rising.{rises, with_own, without}
use Rattle.names_found_levels.proofs.levels.local_rises.Goals as goal

pub returns : goal.returns
returns c = subst (λ (ns : List NameLevel). IfOk c.rises_among.result (λ b. b ≡ rises (without (with_own (names_rise ns []) c.args.definition.now.name) c.args.definition.now.params) c.args.definition.now.body)) c.in_ok-known.ensures c.rises_among.ensures
