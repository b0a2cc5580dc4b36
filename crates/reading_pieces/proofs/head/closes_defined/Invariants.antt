use Rattle.std.proofs.Common.{◌≡◌, ◌≤◌, length}
use Rattle.reading_pieces.specs.Heads.{closes_defined}
use Rattle.reading_pieces.proofs.head.closes_defined.Given as goal

abbrev pub invariant-loop-rest : goal.invariant-loop-rest
invariant-loop-rest l = record {
  some : 1 ≤ l.depth;
  few : l.depth ≤ 100;
  same : closes_defined l.depth l.rest ≡ closes_defined 1 l.fn.tokens;
}

abbrev pub decreases-loop-rest : goal.decreases-loop-rest
decreases-loop-rest l = length l.rest
