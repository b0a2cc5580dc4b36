use Rattle.names_term_levels.proofs.Arguments.{argued_more}
use Rattle.names_term_levels.proofs.reading.in_arguments.Goals as goal

pub loop-index-preserved : goal.loop-index-preserved
loop-index-preserved c =
    argued_more c.args.parameters.now c.args.outer c.args.arguments.now c.loop-index.index c.index-arguments-index.result c.args.found c.loop-index.found c.in_argument-found.result c.has_behind.result c.loop-index-test.true c.index-arguments-index.is c.loop-index.invariant c.has_behind.ensures c.in_argument-found.ensures
