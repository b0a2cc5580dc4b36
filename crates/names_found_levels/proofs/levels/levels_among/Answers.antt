use Rattle.std.proofs.Common.{map}
use Rattle.names_found_levels.proofs.Finding.{marks_fewer, marks_not, marks_turned}
use Rattle.names_found_levels.proofs.levels.levels_among.Goals as goal

pub loop-marks-init : goal.loop-marks-init
loop-marks-init c = c.in_ok-marks.ensures

pub loop-marks-smaller : goal.loop-marks-smaller
loop-marks-smaller c = marks_fewer c.args.names.now (map (λ d. d.now) c.args.definitions.now) c.loop-marks.marks.items c.deref.result.now c.in_ok-next.next.items c.deref.ensures.value c.in_ok-next.ensures c.loop-marks.invariant (marks_not c.deref-in-loop-marks.result.now c.deref-in-loop-marks-2.result.now c.in_ok-next.next.items c.loop-marks.marks.items c.are_same.result c.are_same.ensures.1 c.if-are_same.false c.deref-in-loop-marks.ensures.value c.deref-in-loop-marks-2.ensures.value)

pub loop-marks-preserved : goal.loop-marks-preserved
loop-marks-preserved c = marks_turned c.args.names.now (map (λ d. d.now) c.args.definitions.now) c.loop-marks.marks.items c.deref.result.now c.in_ok-next.next.items c.deref.ensures.value c.in_ok-next.ensures c.loop-marks.invariant
