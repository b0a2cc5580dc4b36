use Rattle.std.proofs.Common.{◌≡◌, ◌++◌, ◌∷◌, [], append_assoc, sym, ap, subst, ◌∙◌, Ok, ◌+◌, arith, length, length-append}
use Rattle.reading_tokens.specs.declared.token.Token.{Token}
use Rattle.reading_tokens.specs.declared.token.Kind.TheVariants.{End}
use Rattle.reading_tokens.specs.Tokens.{LexedFrom, with_all, with_front, token_at, kind_at}
use Rattle.reading_lexer.proofs.Steps.{lexed_bad, lexed_full, lexed_last, lexed_blank, lexed_token, lexed_end, with_all_more, utf8_after}
use Rattle.reading_lexer.proofs.lexer.read.Goals as goal

pub returns-then-len-eq-MAX_TOKENS : goal.returns-then-len-eq-MAX_TOKENS
returns-then-len-eq-MAX_TOKENS c =
    c.loop-rest.invariant.lexed _ (lexed_full c.args.framed c.loop-rest.place _ c.loop-rest.rest.now c.in_ok-shape.size c.in_ok-shape.shape c.in_ok-shape.ensures c.in-Spelled.kind c.in-Spelled.is (omega arith))

pub returns-in-Bad : goal.returns-in-Bad
returns-in-Bad c =
    c.loop-rest.invariant.lexed _ (lexed_bad c.args.framed c.loop-rest.place _ c.loop-rest.rest.now c.in_ok-shape.size c.in_ok-shape.shape c.in_ok-shape.ensures c.in-Bad.why c.in-Bad.is)

pub returns-then-ends : goal.returns-then-ends
returns-then-ends c =
    let at = c.loop-rest.place in
    let next = c.behind-next.result in
    let first : Token = token_at c.in-Spelled.kind at in
    let last : Token = token_at End next in
    let before = c.loop-rest.tokens.items in
    let e : c.push-then-ends.new.self.items ≡ (before ++ first ∷ []) ++ last ∷ [] = c.in_ok-push-in-Spelled-2.ensures.items ∙ ap (λ ts. ts ++ last ∷ []) c.in_ok-push-in-Spelled.ensures.items in
    let f : c.push-then-ends.new.self.items ≡ before ++ first ∷ last ∷ [] = e ∙ append_assoc before (first ∷ []) (last ∷ []) in
    subst (λ ts. LexedFrom c.args.framed c.args.start 0 c.args.text.now (Ok ts)) (sym f)
    (c.loop-rest.invariant.lexed _ (lexed_last c.args.framed at _ c.loop-rest.rest.now c.in_ok-shape.size c.in_ok-shape.shape c.in_ok-shape.ensures c.split_at.result.0.now c.split_at.result.1.now next c.split_at.ensures.front c.split_at.ensures.back c.behind-next.ensures.value c.in-Spelled.kind c.in-Spelled.is (omega arith) (sym c.ends.ensures ∙ c.if-ends.true)))

pub loop-rest-preserved-in-Blank : goal.loop-rest-preserved-in-Blank
loop-rest-preserved-in-Blank c = record {
  line = omega (arith, c.in_ok-shape.ensures, c.split_at.ensures.front_len, c.split_at.ensures.back_len, c.behind-next.ensures.line);
  col = omega (arith, c.in_ok-shape.ensures, c.split_at.ensures.front_len, c.split_at.ensures.back_len, c.behind-next.ensures.col);
  first = c.behind-next.ensures.first;
  inside = utf8_after c.loop-rest.rest.now _ _ c.in_ok-shape.size c.split_at.ensures.front c.split_at.ensures.back c.loop-rest.invariant.inside;
  lexed = λ o k.
      c.loop-rest.invariant.lexed o
      (lexed_blank c.args.framed c.loop-rest.place _ c.loop-rest.rest.now c.in_ok-shape.size c.in_ok-shape.shape c.in_ok-shape.ensures c.split_at.result.0.now c.split_at.result.1.now c.behind-next.result c.split_at.ensures.front c.split_at.ensures.back c.behind-next.ensures.value c.in-Blank.is o k);
}

pub loop-rest-preserved : goal.loop-rest-preserved
loop-rest-preserved c = record {
  line = omega (arith, c.in_ok-shape.ensures, c.split_at.ensures.front_len, c.split_at.ensures.back_len, c.behind-next.ensures.line);
  col = omega (arith, c.in_ok-shape.ensures, c.split_at.ensures.front_len, c.split_at.ensures.back_len, c.behind-next.ensures.col);
  first = c.behind-next.ensures.first;
  inside = utf8_after c.loop-rest.rest.now _ _ c.in_ok-shape.size c.split_at.ensures.front c.split_at.ensures.back c.loop-rest.invariant.inside;
  lexed = λ o k.
      let t : Token = token_at c.kind_at-kind.result c.loop-rest.place in
      let before = c.loop-rest.tokens.items in
      let e : c.push-in-Spelled.new.self.items ≡ before ++ t ∷ [] = c.in_ok-push-in-Spelled-3.ensures.items in
      let n : length c.push-in-Spelled.new.self.items ≡ length before + 1 = omega (arith, ap length e, length-append before (t ∷ [])) in
      let q : c.len-in-Spelled.result ≡ length before = omega arith in
      let p = lexed_token c.args.framed c.loop-rest.place (length before) c.loop-rest.rest.now c.in_ok-shape.size c.in_ok-shape.shape c.in_ok-shape.ensures c.split_at.result.0.now c.split_at.result.1.now c.behind-next.result c.split_at.ensures.front c.split_at.ensures.back c.behind-next.ensures.value c.in-Spelled.kind c.in-Spelled.is (omega arith) (sym c.ends.ensures ∙ c.if-ends.false) c.kind_at-kind.result (c.kind_at-kind.ensures ∙ ap (λ m. kind_at c.args.framed m c.in-Spelled.kind) q) _ n o k in
      subst (λ ts. LexedFrom c.args.framed c.args.start 0 c.args.text.now (with_all ts o)) (sym e)
      (subst (LexedFrom c.args.framed c.args.start 0 c.args.text.now) (sym (with_all_more before t o)) (c.loop-rest.invariant.lexed (with_front t o) p));
}

pub returns : goal.returns
returns c =
    subst (λ ts. LexedFrom c.args.framed c.args.start 0 c.args.text.now (Ok ts)) (sym c.in_ok-push.ensures.items)
    (c.loop-rest.invariant.lexed _ (lexed_end c.args.framed c.loop-rest.place _ _ (omega arith)))
