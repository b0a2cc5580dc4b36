use Rattle.std.proofs.Common.{◌↔◌, ◌<◌, List, length, subst, sym, arith}
use Rattle.std.specs.List.{Contains}
use Rattle.values_core.specs.Data.{Val}
use Rattle.values_core.specs.Products.{InProduct}
use Rattle.values_operations.proofs.Listing.{gives_as}
use Rattle.values_sets.proofs.Several.{no_long_tuples, all_sets}
use Rattle.values_sets.proofs.lists.all_tuples.Goals as goal

pub returns-then-sets-gt-MAX_MEMBERS : goal.returns-then-sets-gt-MAX_MEMBERS
returns-then-sets-gt-MAX_MEMBERS c =
    let ss = c.args.sets.now in
    let long : 100000 < length c.args.sets.now = omega arith in
    gives_as (Contains c.new.result.items) (InProduct ss) c.set_from.result
    (λ v. subst (λ (zs : List Val). Contains zs v ↔ InProduct ss v) (sym c.new.ensures.items) (no_long_tuples ss long v)) c.set_from.ensures

pub tuples-requires-clause-sets : goal.tuples-requires-clause-sets
tuples-requires-clause-sets c = all_sets 0 c.args.sets.now c.requires
