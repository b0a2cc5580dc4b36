use Rattle.std.proofs.Common.{◌∙◌, ap, sym, [], ◌∷◌, ◌++◌, take, ◌||◌}
use Rattle.names_term_parts.specs.Parts.{part}
use Rattle.names_term_parts.specs.Waiting.{waiting}
use Rattle.names_term_levels.specs.Arguments.{arguments_from}
use Rattle.names_term_levels.proofs.Arguments.{arguments_more}
use Rattle.names_term_parts.proofs.Lists.{stacked}
use Rattle.names_term_levels.proofs.reading.push_arguments.Goals as goal

pub loop-index-preserved : goal.loop-index-preserved
loop-index-preserved c =
    let i = c.loop-index.index in
    let xs = c.args.arguments.now in
    let x = c.index-arguments-index.result in
    let before = arguments_from c.args.parameters.now c.args.outer c.args.primed 0 (take i xs) in
    stacked (waiting c.loop-index.stack.items) (waiting c.push.new.stack.items) (waiting c.args.stack.now.items) before (part c.either.result x ∷ []) _ c.in_ok-push.ensures c.loop-index.invariant
    (arguments_more c.args.parameters.now c.args.outer c.args.primed xs i x c.loop-index-test.true c.index-arguments-index.is ∙ ap (λ y. before ++ part y x ∷ []) (sym (c.either.ensures ∙ ap (λ y. c.args.primed || y) c.has_behind.ensures)))
