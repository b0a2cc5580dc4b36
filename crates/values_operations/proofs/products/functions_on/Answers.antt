use Rattle.std.proofs.Common.{◌<◌, ◌≤◌, arith, refl, subst}
use Rattle.std.specs.List.{Contains}
use Rattle.values_operations.specs.Choices.{AreNumbered, IsChoice, IsChoiceOf}
use Rattle.values_operations.specs.Counts.{ways}
use Rattle.values_operations.specs.PartList.{part_list}
use Rattle.values_operations.proofs.Deep.{deep_choices}
use Rattle.values_operations.proofs.Listing.{gives_as}
use Rattle.values_operations.proofs.Ways.{all_ways, too_many_ways}
use Rattle.values_operations.proofs.products.functions_on.Goals as goal

pub returns-in_default : goal.returns-in_default
returns-in_default c = (refl, too_many_ways c.args.keys.now (part_list c.args.parts) c.requires c.in_default.ensures)

pub returns-then-are_deep : goal.returns-then-are_deep
returns-then-are_deep c =
    let ks = c.args.keys.now in
    let ps = part_list c.args.parts in
    let few : ways ps ≤ 100000 = omega (arith, c.in-Some.ensures.0, c.in-Some.ensures.1) in
    let some : 0 < ways ps = omega (arith, c.in-Some.ensures.0, c.if-count-gt0.true) in
    deep_choices ks ps c.requires few some c.if-are_deep.ensures

pub returns : goal.returns
returns c =
    let ks = c.args.keys.now in
    let ps = part_list c.args.parts in
    let fs = c.in_ok-functions.functions.items in
    let all : AreNumbered (IsChoiceOf ks ps) (ways ps) fs = subst (λ n. AreNumbered (IsChoiceOf ks ps) n fs) c.in-Some.ensures.0 c.in_ok-functions.ensures in
    gives_as (Contains fs) (IsChoice ks ps) c.set_from.result (all_ways ks ps fs c.requires all) c.set_from.ensures
