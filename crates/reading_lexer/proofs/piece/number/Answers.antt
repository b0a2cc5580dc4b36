use Rattle.std.proofs.Common.{arith}
use Rattle.reading_lexer.proofs.Fronts.{digit_at, number_large}
use Rattle.reading_lexer.proofs.piece.number.Goals as goal

pub overflow_sub-next : goal.overflow_sub-next
overflow_sub-next c = digit_at c.args.digits.now c.loop-b.b-index (omega arith) c.requires

pub returns-then-next : goal.returns-then-next
returns-then-next c =
    number_large c.args.digits.now c.loop-b.value c.loop-b.b-index (omega arith) c.loop-b.invariant.1 (omega arith)
