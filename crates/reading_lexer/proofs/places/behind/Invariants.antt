use Rattle.std.proofs.Common.{◌≡◌, ◌≤◌, ◌+◌, ◌*◌, drop}
use Rattle.reading_tokens.specs.Tokens.{place_behind}
use Rattle.reading_lexer.proofs.places.behind.Given as goal

abbrev pub invariant-loop-b : goal.invariant-loop-b
invariant-loop-b l = record {
  first : 1 ≤ l.place.col;
  line : l.place.line ≤ l.fn.at.line + l.b-index;
  col : l.place.col ≤ l.fn.at.col + 8 * l.b-index;
  value : place_behind l.place (drop l.b-index l.bytes) ≡ place_behind l.fn.at l.bytes;
}
