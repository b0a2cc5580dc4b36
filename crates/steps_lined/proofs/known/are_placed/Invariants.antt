use Rattle.steps_lined.specs.Held.{IsPlaced}
use Rattle.steps_lined.proofs.UpTo.{UpTo}
use Rattle.steps_lined.proofs.known.are_placed.Given as goal

abbrev pub invariant-loop-line : goal.invariant-loop-line
invariant-loop-line l = UpTo IsPlaced l.lines l.line-index
