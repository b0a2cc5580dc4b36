use Rattle.std.proofs.Common.{[], ◌∷◌, take}
use Rattle.names_terms.specs.TermViews.{fields_of}
use Rattle.names_term_parts.specs.Parts.{part, parts_of, value_list}
use Rattle.names_term_parts.specs.Waiting.{waiting}
use Rattle.names_term_parts.proofs.Lists.{stacked, values_more}
use Rattle.names_term_parts.proofs.pending.push_values.Goals as goal

pub loop-field-preserved : goal.loop-field-preserved
loop-field-preserved c =
    let items = c.items-items.result.now in
    stacked (waiting c.loop-field.stack.items) (waiting c.push.new.stack.items) (waiting c.args.stack.now.items) (parts_of c.args.primed (value_list (fields_of (take c.loop-field.field-index items)))) (part c.args.primed c.field-item.result.value ∷ []) _ c.in_ok-push.ensures c.loop-field.invariant (values_more c.args.primed items c.loop-field.field-index c.field-item.result c.loop-field-test.true c.field-item.is)
