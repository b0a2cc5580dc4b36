use Rattle.std.proofs.Common.{◌∙◌, ap, sym}
use Rattle.std.specs.Prelude.{[], ◌∷◌}
use Rattle.reading_trees.specs.declared.module.Unit.{Unit as ModuleUnit}
use Rattle.names_uses.proofs.Declaring.{in_units, unit_alone}
use Rattle.names_uses.proofs.strict.declares.Goals as goal

pub returns-in-Recursive : goal.returns-in-Recursive
returns-in-Recursive c =
    c.is_among.ensures ∙ unit_alone c.args.name.now _ ∙ ap (λ (u : ModuleUnit). in_units c.args.name.now (u ∷ [])) (sym c.in-Recursive.is)
