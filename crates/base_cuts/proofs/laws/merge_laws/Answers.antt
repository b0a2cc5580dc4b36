use Rattle.base_cuts.proofs.Merging.{allowed_by_clock, merged_is_made}
use Rattle.base_cuts.proofs.laws.merge_laws.Goals as goal

pub returns-clause-by_clock : goal.returns-clause-by_clock
returns-clause-by_clock c = allowed_by_clock

pub returns-clause-merged : goal.returns-clause-merged
returns-clause-merged c = merged_is_made
