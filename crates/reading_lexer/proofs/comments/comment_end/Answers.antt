use Rattle.std.proofs.Common.{sym, ◌∙◌, arith}
use Rattle.reading_lexer.proofs.InComments.{comment_opens, comment_closes, comment_ends, comment_goes, comment_stops}
use Rattle.reading_lexer.proofs.comments.comment_end.Goals as goal

pub loop-at-preserved-then-opens : goal.loop-at-preserved-then-opens
loop-at-preserved-then-opens c = (
  omega arith,
  omega arith,
  omega arith,
  sym (comment_opens c.loop-at.depth c.args.text.now c.loop-at.at (omega arith) (sym c.opens.ensures ∙ c.if-opens.true)) ∙ c.loop-at.invariant.3,
)

pub returns-then-depth-le1-clause-end : goal.returns-then-depth-le1-clause-end
returns-then-depth-le1-clause-end c =
    sym c.loop-at.invariant.3 ∙ comment_ends c.loop-at.depth c.args.text.now c.loop-at.at (omega arith) (sym c.opens.ensures ∙ c.if-opens.false) (sym c.closes.ensures ∙ c.if-closes.true) c.if-depth-le1.true

pub loop-at-preserved-then-closes : goal.loop-at-preserved-then-closes
loop-at-preserved-then-closes c = (
  omega arith,
  omega arith,
  omega arith,
  sym (comment_closes c.loop-at.depth c.args.text.now c.loop-at.at (omega arith) (sym c.opens.ensures ∙ c.if-opens.false) (sym c.closes.ensures ∙ c.if-closes.true) c.if-depth-le1.false) ∙ c.loop-at.invariant.3,
)

pub loop-at-preserved : goal.loop-at-preserved
loop-at-preserved c = (
  omega arith,
  omega arith,
  omega arith,
  sym (comment_goes c.loop-at.depth c.args.text.now c.loop-at.at (omega arith) (sym c.opens.ensures ∙ c.if-opens.false) (sym c.closes.ensures ∙ c.if-closes.false)) ∙ c.loop-at.invariant.3,
)

pub returns-clause-end : goal.returns-clause-end
returns-clause-end c = sym c.loop-at.invariant.3 ∙ comment_stops c.loop-at.depth c.args.text.now c.loop-at.at (omega arith)
