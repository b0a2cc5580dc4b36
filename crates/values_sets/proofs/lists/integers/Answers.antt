use Rattle.std.proofs.lemmas.Int.{to_z-of_z}
use Rattle.std.specs.Int.{w64}
use Rattle.std.specs.Prelude.{FitsSigned}
use Rattle.std.proofs.Common.{rules}
use Rattle.values_sets.proofs.Collecting.{interval_listed}
use Rattle.values_sets.proofs.lists.integers.Goals as goal

pub returns : goal.returns
returns c =
    let a : FitsSigned w64 c.args.first = search rules in
    let b : FitsSigned w64 c.args.last = search rules in
    let low = rw (to_z-of_z w64 c.args.first a) at c.int.ensures in
    let high = rw (to_z-of_z w64 c.args.last b) at c.int-2.ensures in
    let lists = rw (low, high) at c.interval.ensures in
    interval_listed c.args.first c.args.last c.interval.result a b lists
