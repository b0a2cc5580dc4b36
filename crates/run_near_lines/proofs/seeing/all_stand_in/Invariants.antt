use Rattle.std.proofs.Common.{take}
use Rattle.std.specs.Prelude.{All}
use Rattle.steps_why_not.specs.Lines.{StandsIn}
use Rattle.run_near_lines.proofs.seeing.all_stand_in.Given as goal

abbrev pub invariant-loop-see : goal.invariant-loop-see
invariant-loop-see l = All (StandsIn l.places) (take l.see-index l.sees)
