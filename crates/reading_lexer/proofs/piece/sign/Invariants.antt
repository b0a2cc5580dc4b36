use Rattle.std.proofs.Common.{◌≤◌, ◌-◌, length}
use Rattle.reading_lexer.proofs.SignFronts.{SignsAbove}
use Rattle.reading_lexer.proofs.piece.sign.Given as goal

abbrev pub invariant-loop-size : goal.invariant-loop-size
invariant-loop-size l = record {
  some : 1 ≤ l.size;
  within : l.size ≤ length l.text;
  above : SignsAbove l.text l.size;
}

abbrev pub decreases-loop-size : goal.decreases-loop-size
decreases-loop-size l = l.size - 1
