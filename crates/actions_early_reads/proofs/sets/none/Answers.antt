use Rattle.actions_early_reads.proofs.Shown.{shown-none}
use Rattle.actions_early_reads.proofs.sets.none.Goals as goal

pub returns : goal.returns
returns c = shown-none c.empty.result c.empty.ensures
