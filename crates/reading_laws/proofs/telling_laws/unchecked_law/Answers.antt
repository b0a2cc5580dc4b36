use Rattle.reading_laws.proofs.UncheckedLines.{are_lines}
use Rattle.reading_laws.proofs.telling_laws.unchecked_law.Goals as goal

pub returns : goal.returns
returns c = are_lines
