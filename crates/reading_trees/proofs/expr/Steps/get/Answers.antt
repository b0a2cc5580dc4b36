use Rattle.std.proofs.Common.{◌≡◌}
use Rattle.std.specs.Prelude.{option_copied, slice_get}
use Rattle.reading_trees.proofs.Listed.{item_of, within_of, steps_listed}
use Rattle.reading_trees.proofs.expr.Steps.get.Goals as goal

pub returns-clause-item : goal.returns-clause-item
returns-clause-item c =
    let found : option_copied c.get.result ≡ slice_get c.deref.result.now c.args.i = item_of _ _ _ c.get.ensures.lookup in
    rw (← c.self.view_is, steps_listed c.self.inside.items.items, ← c.deref.ensures.value) found

pub returns-clause-within : goal.returns-clause-within
returns-clause-within c =
    let found : option_copied c.get.result ≡ slice_get c.deref.result.now c.args.i = item_of _ _ _ c.get.ensures.lookup in
    rw (← c.self.view_is, steps_listed c.self.inside.items.items, ← c.deref.ensures.value) (within_of c.deref.result.now c.args.i c.get.result found)
