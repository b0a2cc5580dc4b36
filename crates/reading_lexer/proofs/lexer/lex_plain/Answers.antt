use Rattle.std.proofs.Common.{◌∙◌, ap, refl, subst, take, false}
use Rattle.reading_tokens.specs.Tokens.{Tokens, LexedFrom, place_behind}
use Rattle.reading_lexer.proofs.Steps.{answers_by, tokens_utf8, tokens_not_utf8}
use Rattle.reading_lexer.proofs.lexer.lex_plain.Goals as goal

pub returns-in-Err : goal.returns-in-Err
returns-in-Err c =
    tokens_not_utf8 false c.args.file c.args.bytes.now _ _ c.behind.result c.in-Err.ensures.cases.0 (c.valid_up_to.ensures ∙ c.in-Err.ensures.valid_len) refl (c.behind.ensures.value ∙ ap (λ p. place_behind p (take c.valid_up_to.result c.args.bytes.now)) c.start_of-start.ensures)

pub returns : goal.returns
returns c =
    let utf8 = c.in_default.ensures.cases.1 in
    answers_by _ (Tokens false c.args.file c.args.bytes.now) c.read.result
    (λ o h. tokens_utf8 false c.args.file c.args.bytes.now o utf8 (subst (λ p. LexedFrom false p 0 c.args.bytes.now o) c.start_of-start.ensures h))
    c.read.ensures
