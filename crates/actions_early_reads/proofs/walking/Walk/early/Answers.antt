use Rattle.actions_early_reads.specs.Sets.{shown}
use Rattle.actions_early_reads.proofs.Walked.{none-known}
use Rattle.actions_early_reads.proofs.walking.Walk.early.Goals as goal

pub early_in-requires : goal.early_in-requires
early_in-requires c = record { known = none-known c.args.self.now (shown c.args.before) c.new-known.result c.new-known.ensures }
