use Rattle.std.proofs.Common.{◌≡◌, length, sym, ◌∙◌, arith}
use Rattle.std.proofs.lemmas.List.{length-map}
use Rattle.values_sets.specs.DescribedViews.{field_item}
use Rattle.values_sets.proofs.Items.{fields_listed}
use Rattle.values_sets.proofs.described.Fields.len.Goals as goal

pub returns : goal.returns
returns c =
    let long : c.len.result ≡ length c.self.inside.items.items = omega arith in
    rw (← c.self.view_is, fields_listed c.self.inside.items.items) (long ∙ sym (length-map c.self.inside.items.items field_item))
