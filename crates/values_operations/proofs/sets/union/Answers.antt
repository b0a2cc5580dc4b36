use Rattle.std.proofs.Common.{◌≡◌, ◌↔◌, List, subst, sym, ap, ◌∙◌, true}
use Rattle.std.specs.List.{Contains}
use Rattle.values_core.specs.Data.{Val}
use Rattle.values_core.specs.SetLaws.{ordered}
use Rattle.values_core.specs.SetOperations.{GivesSet, InUnion}
use Rattle.values_core.specs.Sets.{items_of}
use Rattle.values_operations.specs.Walk.{merged}
use Rattle.values_operations.specs.declared.sets.Keep.{Keep}
use Rattle.values_operations.proofs.Listing.{gives_as, on_sets}
use Rattle.values_operations.proofs.Merging.{in_union}
use Rattle.values_operations.proofs.sets.union.Goals as goal

pub returns : goal.returns
returns c =
    let a = c.args.a.now in
    let b = c.args.b.now in
    let k : Keep = record { left = true; both = true; right = true } in
    let lists : c.in_ok-members.members.items ≡ merged k (items_of a) (items_of b) =
    c.in_ok-members.ensures ∙ ap (λ xs. merged k xs c.members-ys.result.now) c.members-xs.ensures ∙ ap (λ ys. merged k (items_of a) ys) c.members-ys.ensures in
    let same = λ (v : Val). subst (λ (zs : List Val). Contains zs v ↔ InUnion a b v) (sym lists)
    (in_union (items_of a) (items_of b) (ordered a c.is_value.ensures c.in_ok-expect_set.ensures).ascending (ordered b c.is_value-2.ensures c.in_ok-expect_set-2.ensures).ascending v) in
    on_sets a b (GivesSet (InUnion a b)) c.set_from.result c.in_ok-expect_set.ensures c.in_ok-expect_set-2.ensures
    (gives_as (Contains c.in_ok-members.members.items) (InUnion a b) c.set_from.result same c.set_from.ensures)
