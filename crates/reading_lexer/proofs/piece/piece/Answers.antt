use Rattle.std.proofs.Common.{sym, ap, ◌∙◌, take}
use Rattle.reading_tokens.specs.Shapes.{each, is_digit}
use Rattle.reading_lexer.proofs.Fronts.{blank_piece, number_piece, each_run}
use Rattle.reading_lexer.proofs.piece.piece.Goals as goal

pub returns-then-is_blank : goal.returns-then-is_blank
returns-then-is_blank c = blank_piece c.args.text.now c.requires.some (sym c.is_blank.ensures ∙ c.if-is_blank.true)

pub number-requires : goal.number-requires
number-requires c = ap (λ n. each is_digit (take n c.args.text.now)) c.digits-size.ensures.size ∙ each_run is_digit c.args.text.now

pub returns-then-is_digit : goal.returns-then-is_digit
returns-then-is_digit c =
    number_piece c.args.text.now _ _ c.requires.some (sym c.is_digit.ensures ∙ c.if-is_digit.true) c.digits-size.ensures.size c.number.ensures
