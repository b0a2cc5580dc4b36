use Rattle.std.proofs.Common.{sym, ap, ◌∙◌, length, length-drop, max, arith}
use Rattle.std.specs.List.{prefix_len}
use Rattle.std.proofs.lemmas.List.{take_rest}
use Rattle.reading_tokens.specs.Shapes.{is_dash}
use Rattle.reading_tokens.specs.Tokens.{begins_module}
use Rattle.reading_lexer.proofs.Starts.{start_found, start_passed, start_missing, one_or_more}
use Rattle.reading_lexer.proofs.start.module_start.Goals as goal

pub returns-then-begins_module-clause-start : goal.returns-then-begins_module-clause-start
returns-then-begins_module-clause-start c =
    start_found c.args.text.now c.loop-at.at c.loop-at-test.true c.loop-at.invariant.1 (ap begins_module (sym (take_rest c.args.text.now c.loop-at.at)) ∙ sym c.begins_module.ensures ∙ c.if-begins_module.true)

pub loop-at-preserved : goal.loop-at-preserved
loop-at-preserved c = (
  omega (arith, c.max-at.ensures, c.dashes-dashes.ensures.bound, ap length (take_rest c.args.text.now c.loop-at.at), length-drop c.loop-at.at c.args.text.now),
  start_passed c.args.text.now c.loop-at.at c.max-at.result c.loop-at-test.true c.loop-at.invariant.1
      (ap begins_module (sym (take_rest c.args.text.now c.loop-at.at)) ∙ sym c.begins_module.ensures ∙ c.if-begins_module.false)
      (one_or_more _ c.max-at.result (c.max-at.ensures ∙ ap (λ n. max n 1) (c.dashes-dashes.ensures.size ∙ ap (prefix_len is_dash) (take_rest c.args.text.now c.loop-at.at)))),
)

pub returns-clause-start : goal.returns-clause-start
returns-clause-start c = start_missing c.args.text.now c.loop-at.at c.loop-at-test.false c.loop-at.invariant.1
