use Rattle.std.proofs.Common.{◌≡◌, ◌∙◌, ap, subst, List, map}
use Rattle.std.specs.Borrow.{Bor}
use Rattle.reading_trees.specs.declared.expr.Definition.{Definition}
use Rattle.names_program.specs.InUnits.{definitions_in}
use Rattle.names_least_levels.specs.Levels.{AreLeast}
use Rattle.names_least_levels.specs.declared.told.NameLevel.{NameLevel}
use Rattle.names_uses.specs.ToldLevels.{told_names}
use Rattle.names_uses.proofs.ProgramLevels.{are_told}
use Rattle.names_uses.proofs.levels.definition_levels.Goals as goal

pub returns : goal.returns
returns c =
    let all : map (λ (d : Bor Definition). d.now) c.deref-2.result.now ≡ definitions_in c.args.program.now.units = ap (map (λ (d : Bor Definition). d.now)) c.deref-2.ensures.value ∙ c.in_ok-definitions.ensures in
    let names : c.deref.result.now ≡ told_names c.args.names.now = c.deref.ensures.value ∙ c.in_ok-told.ensures in
    let least : AreLeast (told_names c.args.names.now) (definitions_in c.args.program.now.units) c.in_ok-marks.marks.items = subst (λ (l : List NameLevel). AreLeast l (definitions_in c.args.program.now.units) c.in_ok-marks.marks.items) names (subst (λ (l : List Definition). AreLeast c.deref.result.now l c.in_ok-marks.marks.items) all c.in_ok-marks.ensures) in
    (told_names c.args.names.now, are_told c.args.program.now c.args.config.now c.requires.are.0 c.args.names.now c.requires.are.1, least)
