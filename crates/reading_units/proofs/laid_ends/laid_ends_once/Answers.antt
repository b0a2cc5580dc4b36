use Rattle.reading_units.proofs.LaidEnds.{marked_ends}
use Rattle.reading_units.proofs.laid_ends.laid_ends_once.Goals as goal

pub returns : goal.returns
returns c = marked_ends
