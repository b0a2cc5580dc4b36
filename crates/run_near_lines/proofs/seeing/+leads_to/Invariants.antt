use Rattle.std.proofs.Common.{length}
use Rattle.run_near_lines.proofs.seeing.+leads_to.Given as goal

abbrev pub decreases-leads_to : goal.decreases-leads_to
decreases-leads_to l = length l.keys.now
