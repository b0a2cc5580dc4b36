use Rattle.std.proofs.Common.{◌++◌, ◌+◌, ◌<◌, ◌≤◌, List, ℕ, length, drop, ap, subst, sym, ◌∙◌, arith}
use Rattle.values_sets.specs.DescribedSets.{Fields}
use Rattle.values_sets.specs.DescribedViews.{fields_of}
use Rattle.values_sets.specs.ListedParts.{texts_of}
use Rattle.values_sets.specs.Soundness.{FieldsAreSound}
use Rattle.values_sets.proofs.Items.{fields_back}
use Rattle.values_sets.proofs.Loops.{item_at}
use Rattle.values_sets.proofs.Rests.{name_string, text_step, text_end}
use Rattle.values_sets.proofs.lists.texts.Goals as goal

pub push_name-requires : goal.push_name-requires
push_name-requires c =
    let xs = c.items-items.result.now in
    let below : c.loop-field.field-index < length c.items-items.result.now = omega arith in
    let at = item_at xs c.loop-field.field-index c.field-item.result below c.field-item.is in
    let back = fields_back c.args.fields.now xs c.items-items.ensures in
    name_string xs c.loop-field.field-index c.field-item.result at (subst (λ (gs : Fields). FieldsAreSound gs) (sym back) c.requires)

pub loop-field-preserved : goal.loop-field-preserved
loop-field-preserved c =
    let xs = c.items-items.result.now in
    let below : c.loop-field.field-index < length c.items-items.result.now = omega arith in
    ap (λ (ns : List (List ℕ)). ns ++ texts_of (fields_of (drop (c.loop-field.field-index + 1) xs))) c.in_ok-push_name.ensures
    ∙ text_step c.loop-field.names.items xs c.loop-field.field-index c.field-item.result below c.field-item.is c.loop-field.invariant

pub returns : goal.returns
returns c =
    let xs = c.items-items.result.now in
    let passed : length c.items-items.result.now ≤ c.loop-field.field-index = omega arith in
    text_end c.loop-field.names.items xs c.args.fields.now c.loop-field.field-index (fields_back c.args.fields.now xs c.items-items.ensures) passed c.loop-field.invariant
