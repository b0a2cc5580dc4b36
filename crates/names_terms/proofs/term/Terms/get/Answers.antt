use Rattle.std.proofs.Common.{◌≡◌}
use Rattle.std.specs.Prelude.{option_copied, slice_get}
use Rattle.names_terms.proofs.Listed.{item_of, terms_listed}
use Rattle.names_terms.proofs.term.Terms.get.Goals as goal

pub returns : goal.returns
returns c =
    let found : option_copied c.get.result ≡ slice_get c.deref.result.now c.args.i = item_of _ _ _ c.get.ensures.lookup in
    rw (← c.self.view_is, terms_listed c.self.inside.items.items, ← c.deref.ensures.value) found
