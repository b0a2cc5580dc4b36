use Rattle.std.proofs.Common.{drop, take}
use Rattle.steps_moves.proofs.Ahead.{Ahead}
use Rattle.steps_why_not.proofs.Stopping.{SoFar}
use Rattle.steps_why_not.proofs.stuck.stuck_variable.Given as goal

abbrev pub invariant-loop-update : goal.invariant-loop-update
invariant-loop-update l = record {
  ahead : Ahead l.all (drop l.update-index l.all) l.from l.places;
  far : SoFar (take l.update-index l.all) l.from l.places;
}
