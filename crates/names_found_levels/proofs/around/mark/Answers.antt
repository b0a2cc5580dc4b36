use Rattle.names_found_levels.proofs.Stepping.{mark_none, mark_some}
use Rattle.names_found_levels.proofs.around.mark.Goals as goal

pub returns-in-Some : goal.returns-in-Some
returns-in-Some c = mark_some c.args.marks.now c.args.index c.in-Some.mark.now c.in-Some.ensures.lookup.3.0 c.in-Some.ensures.lookup.1

pub returns-in-None : goal.returns-in-None
returns-in-None c = mark_none c.args.marks.now c.args.index c.in-None.ensures.lookup.3
