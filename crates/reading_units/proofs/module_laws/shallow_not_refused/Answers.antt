use Rattle.reading_units.proofs.NotTooNested.{not_too_nested}
use Rattle.reading_units.proofs.module_laws.shallow_not_refused.Goals as goal

pub returns : goal.returns
returns c =
    not_too_nested c.laws_of_extents.ensures.local c.laws_of_extents.ensures.local_definition c.laws_of_extents.ensures.none c.laws_of_extents.ensures.none_definition c.laws_of_extents.ensures.marks c.laws_of_extents.ensures.marks_definition
    c.laws_of_refusals.ensures.ends_there c.laws_of_refusals.ensures.stopped_there
