use Rattle.std.proofs.Common.{◌∙◌, sym, arith}
use Rattle.reading_lexer.proofs.Quotes.{string_closes, string_breaks, string_cut, string_bad, string_escape, string_goes, string_past}
use Rattle.reading_lexer.proofs.strings.unquote.Goals as goal

pub returns-then-b-eq34 : goal.returns-then-b-eq34
returns-then-b-eq34 c =
    (omega arith, string_closes c.args.text.now c.loop-at.at c.loop-at.content.items c.loop-at.invariant.1 c.loop-at-test.true c.if-b-eq34.true)

pub returns-then-ends_line : goal.returns-then-ends_line
returns-then-ends_line c =
    (omega arith, string_breaks c.args.text.now c.loop-at.at c.loop-at.content.items c.loop-at.invariant.1 c.loop-at-test.true c.if-b-eq34.false (sym c.ends_line.ensures ∙ c.if-ends_line.true))

pub returns-then-at-text : goal.returns-then-at-text
returns-then-at-text c =
    (omega arith, string_cut c.args.text.now c.loop-at.at c.loop-at.content.items c.loop-at.invariant.1 c.loop-at-test.true c.if-b-eq92.true c.if-at-text.true)

pub returns-in-None : goal.returns-in-None
returns-in-None c =
    (omega arith, string_bad c.args.text.now c.loop-at.at c.loop-at.content.items c.loop-at.invariant.1 c.loop-at-test.true c.if-b-eq92.true (omega arith) (sym c.in-None.ensures))

pub loop-at-preserved-then-b-eq92 : goal.loop-at-preserved-then-b-eq92
loop-at-preserved-then-b-eq92 c =
    (omega arith, string_escape c.args.text.now c.loop-at.at c.loop-at.content.items c.loop-at.invariant.1 c.loop-at-test.true c.if-b-eq92.true (omega arith) c.in-Some.c (sym c.in-Some.ensures) c.push.new.self.items c.in_ok-push-in-Some.ensures.items)

pub loop-at-preserved : goal.loop-at-preserved
loop-at-preserved c =
    (omega arith, string_goes c.args.text.now c.loop-at.at c.loop-at.content.items c.loop-at.invariant.1 c.loop-at-test.true c.if-b-eq34.false (sym c.ends_line.ensures ∙ c.if-ends_line.false) c.if-b-eq92.false c.push-else-b-eq92.new.self.items c.in_ok-push.ensures.items)

pub returns : goal.returns
returns c = (omega arith, string_past c.args.text.now c.loop-at.at c.loop-at.content.items c.loop-at.invariant.1 c.loop-at-test.false)
