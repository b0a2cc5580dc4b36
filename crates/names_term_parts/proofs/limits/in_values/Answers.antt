use Rattle.std.proofs.Common.{◌∙◌, ap, [], ◌∷◌, take}
use Rattle.names_terms.specs.TermViews.{fields_of}
use Rattle.names_terms.specs.Terms.{level_of}
use Rattle.names_term_parts.specs.Limits.{no_temporal, value_limits}
use Rattle.names_term_parts.proofs.Lists.{held_part, held_on, values_held}
use Rattle.names_term_parts.proofs.limits.in_values.Goals as goal

pub loop-field-preserved : goal.loop-field-preserved
loop-field-preserved c =
    let items = c.items-items.result.now in
    held_part c.loop-field.found c.held-found.result c.args.at _ c.field-item.result.value c.held-found.ensures (ap (λ b. level_of b.value) c.field.view_is) ∙ held_on c.loop-field.found c.args.found (value_limits c.args.at (fields_of (take c.loop-field.field-index items))) (no_temporal c.args.at c.field-item.result.value ∷ []) _ c.loop-field.invariant (values_held c.args.at items c.loop-field.field-index c.field-item.result c.loop-field-test.true c.field-item.is)
