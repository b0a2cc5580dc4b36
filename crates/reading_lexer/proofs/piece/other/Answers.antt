use Rattle.std.proofs.Common.{sym, ◌∙◌, subst}
use Rattle.reading_tokens.specs.Shapes.{IsPiece}
use Rattle.reading_tokens.specs.declared.token.Kind.TheVariants.{Dashes, Equals}
use Rattle.reading_tokens.specs.declared.piece.Shape.TheVariants.{Spelled}
use Rattle.reading_lexer.proofs.Ends.{after_two, comment_piece}
use Rattle.reading_lexer.proofs.Fronts.{dashes_piece, equals_piece}
use Rattle.reading_lexer.proofs.piece.other.Goals as goal

pub returns-in-Some : goal.returns-in-Some
returns-in-Some c =
    comment_piece c.args.text.now _ _ (sym c.opens_comment.ensures ∙ c.if-opens_comment.true) (after_two c.args.text.now) c.in-Some.ensures.bound c.in-Some.ensures.end

pub returns-then-begins_four : goal.returns-then-begins_four
returns-then-begins_four c =
    subst (λ n. IsPiece c.args.text.now n (Spelled Dashes)) (sym c.dashes.ensures.size) (dashes_piece c.args.text.now (sym c.begins_four.ensures ∙ c.if-begins_four.true))

pub returns-then-begins_four-2 : goal.returns-then-begins_four-2
returns-then-begins_four-2 c =
    subst (λ n. IsPiece c.args.text.now n (Spelled Equals)) (sym c.equals.ensures.size) (equals_piece c.args.text.now (sym c.begins_four-2.ensures ∙ c.if-begins_four-2.true))
