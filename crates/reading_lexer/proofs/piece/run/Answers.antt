use Rattle.std.proofs.Common.{sym, ◌∙◌}
use Rattle.reading_lexer.proofs.Ends.{after_one}
use Rattle.reading_lexer.proofs.RunFronts.{base_piece, listed_piece, unlisted_piece}
use Rattle.reading_lexer.proofs.piece.run.Goals as goal

pub returns-then-begins_base : goal.returns-then-begins_base
returns-then-begins_base c = base_piece c.args.text.now c.requires.first c.requires.second (sym c.begins_base.ensures ∙ c.if-begins_base.true)

pub returns-in-Some : goal.returns-in-Some
returns-in-Some c =
    listed_piece c.args.text.now _ _ _ c.requires.two c.requires.first c.requires.second (sym c.begins_base.ensures ∙ c.if-begins_base.false) (after_one c.args.text.now) c.letters-size.ensures.size c.in-Some.ensures

pub returns-in-None : goal.returns-in-None
returns-in-None c =
    unlisted_piece c.args.text.now _ _ c.requires.two c.requires.first c.requires.second (sym c.begins_base.ensures ∙ c.if-begins_base.false) (after_one c.args.text.now) c.letters-size.ensures.size c.in-None.ensures
