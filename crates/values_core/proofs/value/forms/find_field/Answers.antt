use Rattle.std.proofs.Common.{rules}
use Rattle.std.proofs.lemmas.Fn.{always_returns_same}
use Rattle.std.specs.Cmp.Lexicographic.{slice_cmp}
use Rattle.std.specs.Ordering.{nat_cmp}
use Rattle.values_core.specs.Order.{val_cmp}
use Rattle.values_core.proofs.value.forms.find_field.Goals as goal

pub returns-clause-place : goal.returns-clause-place
unfolding val_cmp
returns-clause-place c =
    rw (← c.deref.ensures.value) (c.binary_search_by.ensures.position (λ f. slice_cmp nat_cmp f.name c.args.name.now) (always_returns_same _ _ _ (λ a r f k. search rules)))
