use Rattle.actions_early_reads.proofs.Shown.{shown-with}
use Rattle.actions_early_reads.proofs.sets.with.Goals as goal

pub returns : goal.returns
returns c = shown-with c.args.set c.with.result c.args.variable c.requires.below c.with.ensures
