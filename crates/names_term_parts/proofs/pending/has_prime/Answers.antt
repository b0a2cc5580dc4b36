use Rattle.std.proofs.Common.{◌||◌, ◌∙◌, ap, sym}
use Rattle.names_terms.specs.TermViews.{step_view}
use Rattle.names_term_parts.specs.Parts.{is_prime}
use Rattle.names_term_parts.proofs.Lists.{prime_more}
use Rattle.names_term_parts.proofs.pending.has_prime.Goals as goal

pub loop-step-preserved : goal.loop-step-preserved
loop-step-preserved c =
    c.either-found.ensures ∙ ap (λ y. c.loop-step.found || y) c.is_prime.ensures ∙ ap (λ y. y || is_prime (step_view c.step-item.result.step)) c.loop-step.invariant ∙ sym (prime_more c.items-items.result.now c.loop-step.step-index c.step-item.result c.loop-step-test.true c.step-item.is)
