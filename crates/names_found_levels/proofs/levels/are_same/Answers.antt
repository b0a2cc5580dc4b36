use Rattle.names_found_levels.proofs.Finding.{marks_decide}
use Rattle.names_found_levels.proofs.levels.are_same.Goals as goal

pub returns : goal.returns
returns c = marks_decide c.args.marks.now c.args.others.now c.eq.result c.eq.ensures
