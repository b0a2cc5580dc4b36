use Rattle.std.proofs.Common.{◌≡◌, ◌<◌, ◌^◌, drop}
use Rattle.reading_tokens.specs.Shapes.{number_from}
use Rattle.reading_lexer.proofs.piece.number.Given as goal

abbrev pub invariant-loop-b : goal.invariant-loop-b
invariant-loop-b l = (l.value < 2 ^ 63) × (number_from l.value (drop l.b-index l.digits) ≡ number_from 0 l.digits)
