use Rattle.std.proofs.Common.{List, length, replicate, subst, sym}
use Rattle.values_core.specs.Data.{Val}
use Rattle.values_core.specs.Products.{InFunctionSet}
use Rattle.values_core.specs.SetOperations.{GivesSet}
use Rattle.values_core.specs.Sets.{items_of}
use Rattle.values_operations.specs.Choices.{AreKeysAndParts, IsChoice}
use Rattle.values_operations.proofs.Adapted.{domain_and_range, in_function_set}
use Rattle.values_operations.proofs.Listing.{gives_as, on_sets}
use Rattle.values_operations.proofs.products.function_set.Goals as goal

pub functions_on-requires : goal.functions_on-requires
functions_on-requires c =
    let a = c.args.a.now in
    let b = c.args.b.now in
    subst (λ (ks : List Val). AreKeysAndParts ks (replicate (length ks) b)) (sym c.members-keys.ensures) (domain_and_range a b c.is_value.ensures c.in_ok-expect_set.ensures c.is_value-2.ensures c.in_ok-expect_set-2.ensures)

pub returns : goal.returns
returns c =
    let a = c.args.a.now in
    let b = c.args.b.now in
    let listed : GivesSet (IsChoice (items_of a) (replicate (length (items_of a)) b)) c.functions_on.result = subst (λ (ks : List Val). GivesSet (IsChoice ks (replicate (length ks) b)) c.functions_on.result) c.members-keys.ensures c.functions_on.ensures in
    on_sets a b (GivesSet (InFunctionSet a b)) c.functions_on.result c.in_ok-expect_set.ensures c.in_ok-expect_set-2.ensures
    (gives_as (IsChoice (items_of a) (replicate (length (items_of a)) b)) (InFunctionSet a b) c.functions_on.result (λ f. in_function_set a b f c.is_value.ensures c.in_ok-expect_set.ensures c.is_value-2.ensures c.in_ok-expect_set-2.ensures) listed)
