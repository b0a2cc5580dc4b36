use Rattle.std.proofs.Common.{◌∙◌, take}
use Rattle.names_terms.specs.TermViews.{steps_of, step_view}
use Rattle.names_term_parts.specs.Limits.{index_limits, path_limits}
use Rattle.names_term_parts.proofs.Lists.{held_on, path_held}
use Rattle.names_term_parts.proofs.limits.in_path.Goals as goal

pub loop-step-preserved : goal.loop-step-preserved
loop-step-preserved c =
    let items = c.items-items.result.now in
    c.in_index-found.ensures ∙ held_on c.loop-step.found c.args.found (path_limits c.args.at (steps_of (take c.loop-step.step-index items))) (index_limits c.args.at (step_view c.step-item.result.step)) _ c.loop-step.invariant (path_held c.args.at items c.loop-step.step-index c.step-item.result c.loop-step-test.true c.step-item.is)
