use Rattle.std.proofs.Common.{◌≡◌, ◌↔◌, ◌⊎◌, inl, List, Err, ap, subst, sym, ◌∙◌}
use Rattle.std.specs.List.{Contains}
use Rattle.values_core.specs.Data.{Val}
use Rattle.values_core.specs.SetOperations.{GivesSet, InBigUnion}
use Rattle.values_core.specs.Sets.{IsSet, Member, items_of}
use Rattle.values_core.specs.declared.fault.EvalKind.TheVariants.{NotSet}
use Rattle.values_core.specs.declared.fault.OpFault.TheVariants.{Refused}
use Rattle.values_operations.specs.Listed.{members_of_all}
use Rattle.values_operations.proofs.Intervals.{in_all}
use Rattle.values_operations.proofs.Listing.{gives_as, on_set}
use Rattle.values_operations.proofs.listings.big_union.Goals as goal

pub returns : goal.returns
returns c =
    let a = c.args.a.now in
    let all : c.in_ok-all.all.items ≡ members_of_all (items_of a) = c.in_ok-all.ensures ∙ ap members_of_all c.members-2.ensures in
    let same = λ (v : Val). subst (λ (zs : List Val). Contains zs v ↔ InBigUnion a v) (sym all) (in_all (items_of a) v) in
    let sets : (v : Val) → Member v a → IsSet v = subst (λ (zs : List Val). (v : Val) → Contains zs v → IsSet v) c.members.ensures c.if-not-are_sets.ensures in
    on_set a (λ o. (((v : Val) → Member v a → IsSet v) × GivesSet (InBigUnion a) o) ⊎ (((v : Val) × Member v a × ¬ IsSet v) × (o ≡ Err (Refused NotSet 0)))) c.set_from.result c.in_ok-expect_set.ensures
    (inl (sets, gives_as (Contains c.in_ok-all.all.items) (InBigUnion a) c.set_from.result same c.set_from.ensures))
