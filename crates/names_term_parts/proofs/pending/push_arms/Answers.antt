use Rattle.std.proofs.Common.{[], ◌∷◌, take}
use Rattle.names_terms.specs.TermViews.{arms_of}
use Rattle.names_term_parts.specs.Parts.{arm_list, part, parts_of}
use Rattle.names_term_parts.specs.Waiting.{waiting}
use Rattle.names_term_parts.proofs.Lists.{stacked, arms_more}
use Rattle.names_term_parts.proofs.pending.push_arms.Goals as goal

pub loop-arm-preserved : goal.loop-arm-preserved
loop-arm-preserved c =
    let items = c.items-items.result.now in
    stacked (waiting c.loop-arm.stack.items) (waiting c.push_two.new.stack.items) (waiting c.args.stack.now.items) (parts_of c.args.primed (arm_list (arms_of (take c.loop-arm.arm-index items)))) (part c.args.primed c.arm-item.result.test ∷ part c.args.primed c.arm-item.result.value ∷ []) _ c.in_ok-push_two.ensures c.loop-arm.invariant (arms_more c.args.primed items c.loop-arm.arm-index c.arm-item.result c.loop-arm-test.true c.arm-item.is)
