use Rattle.std.proofs.Common.{◌↔◌, List, subst, sym}
use Rattle.std.specs.List.{Contains}
use Rattle.values_core.specs.Data.{Val}
use Rattle.values_core.specs.Functions.{InDomain}
use Rattle.values_core.specs.SetOperations.{GivesSet}
use Rattle.values_operations.proofs.Listing.{gives_as}
use Rattle.values_operations.proofs.Pairs.{on_function}
use Rattle.values_operations.proofs.functions.domain.Goals as goal

pub returns : goal.returns
returns c =
    let f = c.args.f.now in
    on_function f (GivesSet (λ key. InDomain key f)) c.set_from.result c.in_ok-expect_function.ensures
    (gives_as (Contains c.in_ok-keys.keys.items) (λ key. InDomain key f) c.set_from.result
    (λ key. subst (λ (ks : List Val). Contains ks key ↔ InDomain key f) (sym c.in_ok-keys.ensures) (λ h. h, λ h. h)) c.set_from.ensures)
