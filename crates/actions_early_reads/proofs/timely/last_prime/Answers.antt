use Rattle.std.proofs.Common.{◌≡◌, arith}
use Rattle.names_terms.specs.TermViews.{step_view}
use Rattle.names_term_parts.specs.Parts.{is_prime}
use Rattle.actions_early_reads.proofs.Last.{last-more}
use Rattle.actions_early_reads.proofs.timely.last_prime.Goals as goal

pub loop-index-preserved : goal.loop-index-preserved
loop-index-preserved c =
    let own : c.is_prime.result ≡ is_prime (step_view c.index-steps-index.result.step) = rw (← c.index-steps-index.is) at c.is_prime.ensures in
    last-more c.args.steps.now c.loop-index.index c.index-steps-index.result c.loop-index.found c.later-found.result c.is_prime.result (omega (arith, c.loop-index-test.true)) c.index-steps-index.is own c.later-found.ensures c.loop-index.invariant
