use Rattle.std.proofs.Common.{◌≡◌}
use Rattle.std.specs.Prelude.{option_copied, slice_get}
use Rattle.values_sets.proofs.Items.{item_of, parts_listed}
use Rattle.values_sets.proofs.described.Parts.get.Goals as goal

pub returns : goal.returns
returns c =
    let found : option_copied c.get.result ≡ slice_get c.deref.result.now c.args.i = item_of _ _ _ c.get.ensures.lookup in
    rw (← c.self.view_is, parts_listed c.self.inside.items.items, ← c.deref.ensures.value) found
