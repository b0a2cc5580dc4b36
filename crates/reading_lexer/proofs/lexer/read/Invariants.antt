use Rattle.std.proofs.Common.{◌≤◌, ◌+◌, ◌*◌, length}
use Rattle.reading_tokens.specs.Tokens.{Outcome, LexedFrom, with_all}
use Rattle.reading_lexer.specs.Lexer.{InUtf8}
use Rattle.reading_lexer.proofs.lexer.read.Given as goal

abbrev pub invariant-loop-rest : goal.invariant-loop-rest
invariant-loop-rest l = record {
  line : l.place.line + length l.rest ≤ l.fn.start.line + length l.fn.text;
  col : l.place.col + 8 * length l.rest ≤ l.fn.start.col + 8 * length l.fn.text;
  first : 1 ≤ l.place.col;
  inside : InUtf8 l.rest;
  lexed : (o : Outcome) → LexedFrom l.fn.framed l.place (length l.tokens.items) l.rest o → LexedFrom l.fn.framed l.fn.start 0 l.fn.text (with_all l.tokens.items o);
}

abbrev pub decreases-loop-rest : goal.decreases-loop-rest
decreases-loop-rest l = length l.rest
