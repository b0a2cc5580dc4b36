use Rattle.std.proofs.Common.{◌≡◌, ◌≤◌, ◌+◌, length}
use Rattle.reading_pieces.specs.Lengths.{length_behind}
use Rattle.reading_pieces.proofs.split.length_behind.Given as goal

abbrev pub invariant-loop-rest : goal.invariant-loop-rest
invariant-loop-rest l = record {
  counted : l.count + length l.rest ≡ length l.fn.tokens;
  lets : l.within.lets ≤ l.count;
  assumed : l.within.assumed ≤ l.count;
  same : length_behind l.fn.begun l.fn.tokens ≡ l.count + length_behind l.within l.rest;
}

abbrev pub decreases-loop-rest : goal.decreases-loop-rest
decreases-loop-rest l = length l.rest
