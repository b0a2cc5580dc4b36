use Rattle.std.proofs.Common.{ap, sym, ◌∙◌}
use Rattle.std.specs.Prelude.{map}
use Rattle.values_sets.specs.DescribedSets.{fields_list}
use Rattle.values_sets.specs.DescribedViews.{field_item}
use Rattle.values_sets.proofs.Items.{fields_listed}
use Rattle.values_sets.proofs.described.Fields.items.Goals as goal

pub returns : goal.returns
returns c = ap (map field_item) c.deref.ensures.value ∙ sym (fields_listed c.self.inside.items.items) ∙ ap fields_list c.self.view_is
