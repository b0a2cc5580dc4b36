use Rattle.std.proofs.Common.{◌≡◌}
use Rattle.std.specs.Prelude.{option_copied, slice_get}
use Rattle.names_terms.specs.TermViews.{step_item}
use Rattle.names_terms.proofs.Listed.{item_of, found, steps_listed}
use Rattle.names_terms.proofs.term.Steps.get.Goals as goal

pub returns : goal.returns
returns c =
    let at : option_copied c.get.result ≡ slice_get c.deref.result.now c.args.i = item_of _ _ _ c.get.ensures.lookup in
    rw (← c.self.view_is, steps_listed c.self.inside.items.items, ← c.deref.ensures.value) (found step_item (option_copied c.get.result) c.deref.result.now c.args.i at)
