use Rattle.std.proofs.Common.{◌≡◌, take}
use Rattle.values_core.specs.Data.{vals_of, vals_depth}
use Rattle.values_core.specs.IsValue.{AreCanonical}
use Rattle.values_core.proofs.value.making.deepest.Given as goal

abbrev pub invariant-loop-item : goal.invariant-loop-item
invariant-loop-item l = record {
  most : l.most ≡ vals_depth (vals_of (take l.item-index l.item-items));
  canonical : AreCanonical (vals_of (take l.item-index l.item-items));
}
