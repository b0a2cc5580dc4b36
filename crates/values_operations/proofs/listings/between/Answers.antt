use Rattle.std.proofs.Common.{◌≡◌, ◌↔◌, List, subst, sym, arith, refl, pos}
use Rattle.std.specs.Prelude.{◌<ℤ◌, ◌≤ℤ◌, ◌+ℤ◌}
use Rattle.std.specs.List.{Contains}
use Rattle.std.proofs.lemmas.Int.{ints, to_z-of_z}
use Rattle.values_core.specs.Data.{Val}
use Rattle.values_core.specs.SetOperations.{InInterval}
use Rattle.values_operations.specs.Listed.{ints_from}
use Rattle.values_operations.proofs.Intervals.{interval_is, nothing_between, too_many_between}
use Rattle.values_operations.proofs.Listing.{gives_as}
use Rattle.values_operations.proofs.listings.between.Goals as goal

pub returns-then-first-last : goal.returns-then-first-last
returns-then-first-last c =
    let y = c.args.first in
    let z = c.args.last in
    let over : z <ℤ y = omega (arith, ints) in
    gives_as (Contains c.new.result.items) (InInterval y z) c.set_from.result
    (λ v. subst (λ (zs : List Val). Contains zs v ↔ InInterval y z v) (sym c.new.ensures.items) (nothing_between y z over v)) c.set_from.ensures

pub returns-in_default : goal.returns-in_default
returns-in_default c =
    let y = c.args.first in
    let z = c.args.last in
    let fits = c.ranges.first in
    let far : (y +ℤ pos 100000) ≤ℤ z = omega (arith, ints, c.in_default.ensures) in
    (refl, too_many_between y z far)

pub returns : goal.returns
returns c =
    let y = c.args.first in
    let z = c.args.last in
    let fits = c.ranges.first in
    let lists : c.in_ok-members.members.items ≡ ints_from y c.in-Some.count = simp to_z-of_z at c.in_ok-members.ensures in
    let ends : y +ℤ pos c.in-Some.count ≡ z +ℤ pos 1 = omega (arith, ints, c.in-Some.ensures) in
    gives_as (Contains c.in_ok-members.members.items) (InInterval y z) c.set_from-2.result
    (λ v. subst (λ (zs : List Val). Contains zs v ↔ InInterval y z v) (sym lists) (interval_is y z c.in-Some.count ends v)) c.set_from-2.ensures
