use Rattle.std.proofs.Common.{◌∙◌, ap, sym, take}
use Rattle.names_terms.specs.TermViews.{steps_of, step_view}
use Rattle.names_terms.specs.Levels.{of_steps, of_step}
use Rattle.names_term_parts.specs.Limits.{step_limits, steps_limits}
use Rattle.names_term_parts.specs.FaultOrder.{held_all}
use Rattle.names_term_parts.proofs.Lists.{held_on, steps_held, steps_next}
use Rattle.names_term_parts.proofs.limits.in_steps.Goals as goal

pub loop-step-preserved : goal.loop-step-preserved
loop-step-preserved c =
    let items = c.items-items.result.now in
    let x = c.step-item.result in
    let i = c.loop-step.step-index in (
      c.in_step-found.ensures
          ∙ ap (λ l. held_all c.loop-step.found (step_limits x.at l (step_view x.step))) c.loop-step.invariant.1
          ∙ held_on c.loop-step.found c.args.found (steps_limits c.args.level (steps_of (take i items))) (step_limits x.at (of_steps c.args.level (steps_of (take i items))) (step_view x.step)) _ c.loop-step.invariant.0 (steps_held c.args.level items i x c.loop-step-test.true c.step-item.is),
      c.of_step-before.ensures ∙ ap (λ l. of_step l (step_view x.step)) c.loop-step.invariant.1 ∙ ap (of_steps c.args.level) (sym (steps_next items i x c.loop-step-test.true c.step-item.is)),
    )
