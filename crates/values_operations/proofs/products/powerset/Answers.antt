use Rattle.std.proofs.Common.{◌≡◌, ◌<◌, ◌≤◌, ◌*◌, ◌%◌, ◌^◌, ℕ, List, Result, Err, length, ap, refl, subst, sym, arith}
use Rattle.std.specs.List.{Contains}
use Rattle.std.proofs.lemmas.Nat.{one_shl}
use Rattle.values_core.specs.Data.{Val, depth}
use Rattle.values_core.specs.SetOperations.{GivesSet, InPowerset}
use Rattle.values_core.specs.Sets.{items_of}
use Rattle.values_core.specs.declared.fault.EvalKind.TheVariants.{TooDeep, TooLarge}
use Rattle.values_core.specs.declared.fault.OpFault.{OpFault}
use Rattle.values_core.specs.declared.fault.OpFault.TheVariants.{Refused}
use Rattle.values_operations.specs.Choices.{AreNumbered}
use Rattle.values_operations.specs.Subsets.{AreMembers, IsSubsetOf}
use Rattle.values_operations.proofs.Deep.{deep_subsets}
use Rattle.values_operations.proofs.Listing.{gives_as, on_set}
use Rattle.values_operations.proofs.Subsets.{all_subsets, set_members, too_many_subsets}
use Rattle.values_operations.proofs.products.powerset.Goals as goal

pub returns-then-members-gt16 : goal.returns-then-members-gt16
returns-then-members-gt16 c =
    let a = c.args.a.now in
    let r : Result Val OpFault = Err (Refused TooLarge 255) in
    let is_set = c.in_ok-expect_set.ensures in
    let many : 16 < length (items_of a) = omega (arith, ap (λ (xs : List Val). length xs) c.members-members.ensures) in
    on_set a (GivesSet (InPowerset a)) r is_set (refl, too_many_subsets a c.is_value.ensures is_set many)

pub returns-then-levels-ge-MAX_VALUE_DEPTH : goal.returns-then-levels-ge-MAX_VALUE_DEPTH
returns-then-levels-ge-MAX_VALUE_DEPTH c =
    let a = c.args.a.now in
    let r : Result Val OpFault = Err (Refused TooDeep 255) in
    let is_set = c.in_ok-expect_set.ensures in
    let few : length (items_of a) ≤ 16 = omega (arith, ap (λ (xs : List Val). length xs) c.members-members.ensures) in
    let deep : 32 ≤ depth a = omega (arith, c.levels.ensures) in
    on_set a (GivesSet (InPowerset a)) r is_set (deep_subsets a c.is_value.ensures is_set few deep)

pub all_subsets-requires-clause-fit : goal.all_subsets-requires-clause-fit
all_subsets-requires-clause-fit c = subst (λ (xs : List Val). AreMembers xs) (sym c.members-members.ensures) (set_members c.args.a.now c.is_value.ensures c.in_ok-expect_set.ensures)

pub returns : goal.returns
returns c =
    let a = c.args.a.now in
    let vs = c.in_ok-subsets.subsets.items in
    let xs = c.members-members.result.now in
    let few : length xs < 64 = omega arith in
    let count : (1 * 2 ^ length xs) % 2 ^ 64 ≡ 2 ^ length xs = one_shl (length xs) 64 few in
    let counted : AreNumbered (IsSubsetOf xs) (2 ^ length xs) vs = subst (λ (n : ℕ). AreNumbered (IsSubsetOf xs) n vs) count c.in_ok-subsets.ensures in
    let all : AreNumbered (IsSubsetOf (items_of a)) (2 ^ length (items_of a)) vs = subst (λ (ys : List Val). AreNumbered (IsSubsetOf ys) (2 ^ length ys) vs) c.members-members.ensures counted in
    on_set a (GivesSet (InPowerset a)) c.set_from.result c.in_ok-expect_set.ensures
    (gives_as (Contains vs) (InPowerset a) c.set_from.result (all_subsets a vs all) c.set_from.ensures)
