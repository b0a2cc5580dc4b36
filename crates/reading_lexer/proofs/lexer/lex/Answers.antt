use Rattle.std.proofs.Common.{◌∙◌, ap, refl, take, true}
use Rattle.reading_tokens.specs.Tokens.{Tokens, place_behind}
use Rattle.reading_lexer.proofs.Steps.{answers_by, tokens_utf8, tokens_not_utf8, module_found, module_missing}
use Rattle.reading_lexer.proofs.lexer.lex.Goals as goal

pub returns-in-Err : goal.returns-in-Err
returns-in-Err c =
    tokens_not_utf8 true c.args.file c.args.bytes.now _ _ c.behind.result c.in-Err.ensures.cases.0 (c.valid_up_to.ensures ∙ c.in-Err.ensures.valid_len) refl (c.behind.ensures.value ∙ ap (λ p. place_behind p (take c.valid_up_to.result c.args.bytes.now)) c.start_of-start.ensures)

pub returns-in-Some : goal.returns-in-Some
returns-in-Some c =
    let utf8 = c.in_default.ensures.cases.1 in
    answers_by _ (Tokens true c.args.file c.args.bytes.now) c.read.result
    (λ o h. tokens_utf8 true c.args.file c.args.bytes.now o utf8 (module_found c.args.file c.args.bytes.now _ _ c.in-Some.n c.behind-in-Some.result o c.in-Some.ensures.start c.split_at.ensures.front c.split_at.ensures.back (c.behind-in-Some.ensures.value ∙ ap (λ p. place_behind p c.split_at.result.0.now) c.start_of-start.ensures) h))
    c.read.ensures

pub returns-in-None : goal.returns-in-None
returns-in-None c =
    let utf8 = c.in_default.ensures.cases.1 in
    answers_by _ (Tokens true c.args.file c.args.bytes.now) c.end_alone.result
    (λ o h. tokens_utf8 true c.args.file c.args.bytes.now o utf8 (module_missing c.args.file c.args.bytes.now c.behind-in-None.result o c.in-None.ensures.start (c.behind-in-None.ensures.value ∙ ap (λ p. place_behind p c.args.bytes.now) c.start_of-start.ensures) h))
    c.end_alone.ensures
