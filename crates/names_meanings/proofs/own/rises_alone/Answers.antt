use Rattle.std.proofs.Common.{◌∙◌, ap, List}
use Rattle.std.specs.Prelude.{[]}
use Rattle.names_found_levels.proofs.Mentioned.{same_local}
use Rattle.names_least_levels.specs.declared.told.NameLevel.{NameLevel}
use Rattle.names_least_levels.specs.Levels.{names_rise}
use Rattle.names_least_levels.specs.Rising.{rises, with_own, without}
use Rattle.names_meanings.specs.Around.{takes}
use Rattle.names_meanings.specs.Complaints.{told}
use Rattle.names_meanings.proofs.own.rises_alone.Goals as goal

-- the clause of `local_rises`, and then what is told of the free names alone
pub returns : goal.returns
returns c =
    c.in_ok-rises.ensures
    ∙ ap (λ (l : List NameLevel). rises (without (with_own (names_rise l []) c.args.definition.now.name) c.args.definition.now.params) c.args.definition.now.body) c.deref.ensures.value
    ∙ same_local c.args.definition.now.name c.args.definition.now.params c.args.definition.now.body (names_rise c.in_ok-names.names.items []) (told (takes c.args.walk.now)) c.in_ok-names.ensures
