use Rattle.std.proofs.Common.{◌∙◌, ap, [], ◌∷◌, take}
use Rattle.names_terms.specs.TermViews.{bounds_of}
use Rattle.names_terms.specs.Terms.{level_of}
use Rattle.names_term_parts.specs.Limits.{no_temporal, set_limits}
use Rattle.names_term_parts.proofs.Lists.{held_part, held_on, sets_held}
use Rattle.names_term_parts.proofs.limits.in_sets.Goals as goal

pub loop-bound-preserved : goal.loop-bound-preserved
loop-bound-preserved c =
    let items = c.items-items.result.now in
    held_part c.loop-bound.found c.held-found.result c.args.at _ c.bound-item.result.set c.held-found.ensures (ap (λ b. level_of b.set) c.bound.view_is) ∙ held_on c.loop-bound.found c.args.found (set_limits c.args.at (bounds_of (take c.loop-bound.bound-index items))) (no_temporal c.args.at c.bound-item.result.set ∷ []) _ c.loop-bound.invariant (sets_held c.args.at items c.loop-bound.bound-index c.bound-item.result c.loop-bound-test.true c.bound-item.is)
