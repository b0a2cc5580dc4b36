use Rattle.reading_units.proofs.InstanceTokens.{no_both}
use Rattle.reading_units.proofs.OneModule.{module_same}
use Rattle.reading_units.proofs.module_laws.one_module.Goals as goal

pub returns : goal.returns
returns c =
    module_same (no_both c.laws_of_extents.ensures.local c.laws_of_refusals.ensures.stopped_there c.laws_of_extents.ensures.none) c.laws_of_trees.ensures.read
    c.laws_of_trees.ensures.defined
