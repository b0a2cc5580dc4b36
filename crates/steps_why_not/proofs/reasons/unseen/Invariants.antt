use Rattle.std.proofs.Common.{take}
use Rattle.std.specs.Prelude.{All}
use Rattle.steps_why_not.specs.Lines.{StandsIn}
use Rattle.steps_why_not.proofs.reasons.unseen.Given as goal

abbrev pub invariant-loop-see : goal.invariant-loop-see
invariant-loop-see l = All (StandsIn l.places) (take l.see-index l.sees)
