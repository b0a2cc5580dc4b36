use Rattle.std.proofs.Common.{sym, ap, ◌∙◌, take}
use Rattle.reading_tokens.specs.Shapes.{each, is_word}
use Rattle.reading_lexer.proofs.Fronts.{fair_piece, word_piece, each_run}
use Rattle.reading_lexer.proofs.piece.word.Goals as goal

pub returns-then-begins_fair : goal.returns-then-begins_fair
returns-then-begins_fair c = fair_piece c.args.text.now c.requires.first (sym c.begins_fair.ensures ∙ c.if-begins_fair.true)

pub named-requires : goal.named-requires
named-requires c = ap (λ n. each is_word (take n c.args.text.now)) c.words-size.ensures.size ∙ each_run is_word c.args.text.now

pub returns : goal.returns
returns c =
    word_piece c.args.text.now _ _ c.requires.some c.requires.first (sym c.begins_fair.ensures ∙ c.if-begins_fair.false) c.words-size.ensures.size c.in_ok-shape.ensures
