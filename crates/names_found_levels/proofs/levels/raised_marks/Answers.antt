use Rattle.names_found_levels.proofs.Finding.{marks_begun}
use Rattle.names_found_levels.proofs.levels.raised_marks.Goals as goal

pub loop-index-init : goal.loop-index-init
loop-index-init c = marks_begun (λ d. d.now) c.args.names.now c.args.definitions.now c.in_ok-marks.marks.items c.in_ok-marks.ensures
