use Rattle.std.proofs.Common.{length}
use Rattle.std.specs.List.Sorted.{IsStrictlySortedBy, IsSearchInRange, IsBinarySearchResult}
use Rattle.values_core.specs.Data.{set, vals_of}
use Rattle.values_core.specs.Order.{val_cmp}
use Rattle.values_core.specs.IsValue.{IsValue}
use Rattle.values_core.proofs.SetLemmas.{contains_by_search}
use Rattle.values_core.specs.SetLaws.{members-vals_of}
use Rattle.values_core.proofs.value.Value.contains.Goals as goal

pub returns-in-Set : goal.returns-in-Set
returns-in-Set c =
    let xs = c.deref.result.now.items.items in
    let valid : IsValue (set (vals_of xs)) = rw (c.in-Set.is, ← c.deref.ensures) at c.self.invariant.valid in
    let up : IsStrictlySortedBy val_cmp xs = rw members-vals_of at valid.canonical.0.ascending in
    let range : IsSearchInRange c.binary_search.result (length xs) = rw c.as_slice.ensures.value at c.binary_search.ensures.bound in
    let place : IsBinarySearchResult (λ y. val_cmp y c.args.v.now) xs c.binary_search.result = rw c.as_slice.ensures.value at c.binary_search.ensures.position in
    let found = contains_by_search xs c.args.v.now c.binary_search.result up range place in
    rw (c.is_ok.ensures.value, ← c.self.view_is, c.in-Set.is, ← c.deref.ensures, members-vals_of) found
