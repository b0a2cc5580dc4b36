use Rattle.std.proofs.Common.{◌∙◌, ap}
use Rattle.std.specs.Prelude.{Option}
use Rattle.names_found_levels.specs.Found.{first_rises}
use Rattle.names_least_levels.specs.declared.told.Told.{Told}
use Rattle.names_found_levels.proofs.Mapped.{rises_first}
use Rattle.names_found_levels.proofs.around.in_program.Goals as goal

pub returns : goal.returns
returns c = c.told_rises.ensures ∙ ap (λ (o : Option Told). first_rises c.args.marks.now o) c.get.ensures ∙ rises_first c.args.names.now c.args.marks.now c.args.name.now
