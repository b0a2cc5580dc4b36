use Rattle.std.proofs.Common.{◌∙◌, ap, [], ◌∷◌, take}
use Rattle.names_terms.specs.TermViews.{terms_of}
use Rattle.names_terms.specs.Terms.{level_of}
use Rattle.names_term_parts.specs.Limits.{no_temporal, term_limits}
use Rattle.names_term_parts.proofs.Lists.{held_part, held_on, terms_held}
use Rattle.names_term_parts.proofs.limits.in_terms.Goals as goal

pub loop-term-preserved : goal.loop-term-preserved
loop-term-preserved c =
    let items = c.items-items.result.now in
    held_part c.loop-term.found c.held-found.result c.args.at _ c.term-item.result c.held-found.ensures (ap level_of c.term.view_is) ∙ held_on c.loop-term.found c.args.found (term_limits c.args.at (terms_of (take c.loop-term.term-index items))) (no_temporal c.args.at c.term-item.result ∷ []) _ c.loop-term.invariant (terms_held c.args.at items c.loop-term.term-index c.term-item.result c.loop-term-test.true c.term-item.is)
