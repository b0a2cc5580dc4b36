use Rattle.std.proofs.Common.{length}
use Rattle.logs_updates.proofs.applying.+change.Given as goal

abbrev pub decreases-change : goal.decreases-change
decreases-change l = length l.keys.now
