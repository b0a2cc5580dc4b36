use Rattle.std.proofs.Common.{Ok, Err, ◌+◌, ◌∙◌, subst, sym}
use Rattle.reading_tokens.specs.declared.token.Kind.TheVariants.{Str}
use Rattle.reading_tokens.specs.declared.piece.Shape.TheVariants.{Spelled}
use Rattle.reading_tokens.specs.Shapes.{IsPiece}
use Rattle.reading_lexer.proofs.Ends.{string_piece, string_utf8, after_one}
use Rattle.reading_lexer.proofs.piece.string.Goals as goal

pub text_of-requires : goal.text_of-requires
text_of-requires c =
    let q = rw c.in-Closed.is at c.in_ok-content.ensures in
    string_utf8 c.args.text.now _ _ _ _ c.requires.some c.requires.first (after_one c.args.text.now) c.requires.inside q.1 c.deref.ensures.value

pub returns-in_ok-text-in-Closed : goal.returns-in_ok-text-in-Closed
returns-in_ok-text-in-Closed c =
    let q = rw c.in-Closed.is at c.in_ok-content.ensures in
    let p : IsPiece c.args.text.now (c.in-Closed.size + 1) (Spelled (Str c.in-Closed.content.items)) =
    string_piece c.args.text.now _ _ (Ok c.in-Closed.content.items) c.requires.some c.requires.first (after_one c.args.text.now) q.0 q.1
    in
    subst (λ t. IsPiece c.args.text.now (c.in-Closed.size + 1) (Spelled (Str t))) (sym (c.in_ok-text-in-Closed.ensures ∙ c.deref.ensures.value)) p

pub returns-in-Broken : goal.returns-in-Broken
returns-in-Broken c =
    let q = rw c.in-Broken.is at c.in_ok-content.ensures in
    string_piece c.args.text.now _ _ (Err c.in-Broken.why) c.requires.some c.requires.first (after_one c.args.text.now) q.0 q.1
