use Rattle.std.proofs.Common.{ap, sym, ◌∙◌}
use Rattle.values_sets.specs.DescribedSets.{parts_list}
use Rattle.values_sets.proofs.Items.{parts_listed}
use Rattle.values_sets.proofs.described.Parts.items.Goals as goal

pub returns : goal.returns
returns c = c.deref.ensures.value ∙ sym (parts_listed c.self.inside.items.items) ∙ ap parts_list c.self.view_is
