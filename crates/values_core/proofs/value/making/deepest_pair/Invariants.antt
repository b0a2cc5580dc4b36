use Rattle.std.proofs.Common.{◌≡◌, take}
use Rattle.values_core.specs.Data.{pairs_of, pairs_depth}
use Rattle.values_core.specs.IsValue.{HaveCanonical}
use Rattle.values_core.proofs.value.making.deepest_pair.Given as goal

abbrev pub invariant-loop-pair : goal.invariant-loop-pair
invariant-loop-pair l = record {
  most : l.most ≡ pairs_depth (pairs_of (take l.pair-index l.pair-items));
  canonical : HaveCanonical (pairs_of (take l.pair-index l.pair-items));
}
