use Rattle.std.proofs.Common.{rules}
use Rattle.std.proofs.lemmas.Fn.{always_returns_same}
use Rattle.values_core.specs.Order.{val_cmp}
use Rattle.values_core.proofs.value.forms.find.Goals as goal

pub returns-clause-place : goal.returns-clause-place
returns-clause-place c =
    rw (← c.deref.ensures.value) (c.binary_search_by.ensures.position (λ e. val_cmp e.key c.args.key.now) (always_returns_same _ _ _ (λ a r f k. search rules)))
