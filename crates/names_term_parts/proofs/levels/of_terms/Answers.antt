use Rattle.std.proofs.Common.{◌∙◌, ap}
use Rattle.names_terms.specs.Terms.{level_of}
use Rattle.names_terms.specs.Levels.{joined}
use Rattle.names_term_parts.proofs.Lists.{levels_more}
use Rattle.names_term_parts.proofs.levels.of_terms.Goals as goal

pub loop-term-preserved : goal.loop-term-preserved
loop-term-preserved c =
    levels_more c.items-items.result.now c.loop-term.term-index c.term-item.result c.loop-term.level c.joined-level.result c.loop-term-test.true c.term-item.is c.loop-term.invariant (c.joined-level.ensures ∙ ap (λ y. joined c.loop-term.level y) (ap level_of c.term.view_is))
