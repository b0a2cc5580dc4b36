use Rattle.std.proofs.Common.{◌∙◌, ap}
use Rattle.names_uses.specs.ToldLevels.{told_names}
use Rattle.names_uses.proofs.ProgramLevels.{told_end}
use Rattle.names_uses.proofs.levels.told_names.Goals as goal

pub returns : goal.returns
returns c =
    told_end c.loop-entry.levels.items _ c.items-entry-items.result.now c.loop-entry.entry-index c.loop-entry-test.false c.loop-entry.invariant ∙ ap told_names c.items-entry-items.ensures
