use Rattle.std.proofs.Common.{arith}
use Rattle.names_terms.specs.TermViews.{steps_of}
use Rattle.names_term_parts.specs.Parts.{steps_parts}
use Rattle.names_term_parts.specs.Waiting.{waiting}
use Rattle.names_term_parts.proofs.Lists.{left_on}
use Rattle.names_term_parts.proofs.pending.push_steps.Goals as goal

pub loop-left-preserved : goal.loop-left-preserved
loop-left-preserved c =
    let k = c.loop-left.invariant.0 in
    (omega arith, left_on (waiting c.loop-left.stack.items) (waiting c.push_step.new.stack.items) (waiting c.args.stack.now.items) (steps_parts c.args.primed (steps_of c.args.steps.now)) c.loop-left.under c.either-under.result c.is_prime.result c.args.steps.now c.loop-left.left c.index-steps-left.result c.loop-left-test.true c.loop-left.invariant.0 c.index-steps-left.is c.in_ok-push_step.ensures c.is_prime.ensures c.either-under.ensures c.loop-left.invariant.1)
