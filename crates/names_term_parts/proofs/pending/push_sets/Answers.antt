use Rattle.std.proofs.Common.{[], ◌∷◌, take}
use Rattle.names_terms.specs.TermViews.{bounds_of}
use Rattle.names_term_parts.specs.Parts.{part, parts_of, set_list}
use Rattle.names_term_parts.specs.Waiting.{waiting}
use Rattle.names_term_parts.proofs.Lists.{stacked, sets_more}
use Rattle.names_term_parts.proofs.pending.push_sets.Goals as goal

pub loop-bound-preserved : goal.loop-bound-preserved
loop-bound-preserved c =
    let items = c.items-items.result.now in
    stacked (waiting c.loop-bound.stack.items) (waiting c.push.new.stack.items) (waiting c.args.stack.now.items) (parts_of c.args.primed (set_list (bounds_of (take c.loop-bound.bound-index items)))) (part c.args.primed c.bound-item.result.set ∷ []) _ c.in_ok-push.ensures c.loop-bound.invariant (sets_more c.args.primed items c.loop-bound.bound-index c.bound-item.result c.loop-bound-test.true c.bound-item.is)
