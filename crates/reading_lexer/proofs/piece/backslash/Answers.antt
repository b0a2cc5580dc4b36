use Rattle.std.proofs.Common.{sym, ◌∙◌, arith}
use Rattle.reading_lexer.proofs.Ends.{after_two}
use Rattle.reading_lexer.proofs.RunFronts.{lone_piece, alone_piece, line_piece, or_piece}
use Rattle.reading_lexer.proofs.piece.backslash.Goals as goal

pub returns-then-text-lt2 : goal.returns-then-text-lt2
returns-then-text-lt2 c = lone_piece c.args.text.now c.requires.some c.requires.first c.if-text-lt2.true

pub returns-then-second-eq42 : goal.returns-then-second-eq42
returns-then-second-eq42 c =
    line_piece c.args.text.now _ _ (omega arith) (after_two c.args.text.now) c.requires.first c.if-second-eq42.true c.line.ensures.size

pub returns-then-second-eq47 : goal.returns-then-second-eq47
returns-then-second-eq47 c = or_piece c.args.text.now (omega arith) c.requires.first c.if-second-eq47.true

pub returns : goal.returns
returns c =
    alone_piece c.args.text.now (omega arith) c.requires.first c.if-second-eq42.false c.if-second-eq47.false (sym c.is_letter.ensures ∙ c.if-is_letter.false)
