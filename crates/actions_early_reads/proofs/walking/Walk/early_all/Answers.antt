use Rattle.actions_early_reads.specs.Sets.{shown}
use Rattle.actions_early_reads.proofs.Walked.{none-known}
use Rattle.actions_early_reads.proofs.walking.Walk.early_all.Goals as goal

pub early_rest-requires : goal.early_rest-requires
early_rest-requires c = record { known = none-known c.args.self.now (shown c.args.before) c.new-known.result c.new-known.ensures }
