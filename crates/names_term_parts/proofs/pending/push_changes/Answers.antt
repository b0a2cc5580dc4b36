use Rattle.std.proofs.Common.{[], ◌∷◌, ◌++◌, take}
use Rattle.names_terms.specs.TermViews.{changes_of}
use Rattle.names_term_parts.specs.Parts.{change_parts, part, steps_parts}
use Rattle.names_term_parts.specs.Waiting.{waiting}
use Rattle.names_term_parts.proofs.Lists.{stacked, changes_more}
use Rattle.names_term_parts.proofs.pending.push_changes.Goals as goal

pub loop-change-preserved : goal.loop-change-preserved
loop-change-preserved c =
    let items = c.items-items.result.now in
    stacked (waiting c.loop-change.stack.items) (waiting c.push_path.new.stack.items) (waiting c.args.stack.now.items) (change_parts c.args.primed (changes_of (take c.loop-change.change-index items))) (steps_parts c.args.primed c.change-item.result.path ++ part c.args.primed c.change-item.result.value ∷ []) _ c.in_ok-push_path.ensures c.loop-change.invariant (changes_more c.args.primed items c.loop-change.change-index c.change-item.result c.loop-change-test.true c.change-item.is)
