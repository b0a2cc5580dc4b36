use Rattle.std.proofs.Common.{drop}
use Rattle.steps_moves.proofs.Ahead.{Ahead}
use Rattle.steps_moves.proofs.moving.moved.Given as goal

abbrev pub invariant-loop-update : goal.invariant-loop-update
invariant-loop-update l = Ahead l.all (drop l.update-index l.all) l.from l.places
