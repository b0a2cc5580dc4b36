use Rattle.std.proofs.Common.{◌≡◌, List, length, subst, sym, ◌∙◌, refl, pos}
use Rattle.values_core.specs.Data.{Val}
use Rattle.values_core.specs.Products.{InProduct}
use Rattle.values_core.specs.SetOperations.{GivesSet}
use Rattle.values_operations.specs.Choices.{AreKeysAndParts, IsChoice}
use Rattle.values_operations.specs.Listed.{ints_from}
use Rattle.values_operations.proofs.Adapted.{in_product, integer_keys}
use Rattle.values_operations.proofs.Listing.{gives_as}
use Rattle.values_operations.proofs.products.tuples.Goals as goal

pub functions_on-requires : goal.functions_on-requires
functions_on-requires c =
    let ps = c.args.parts.now in
    let keys : c.as_slice.result.now ≡ ints_from (pos 1) (length ps) = c.as_slice.ensures.value ∙ c.in_ok-keys.ensures in
    subst (λ (ks : List Val). AreKeysAndParts ks ps) (sym keys) (integer_keys ps (length ps) c.requires.few refl c.requires.sets c.are_values.ensures)

pub returns : goal.returns
returns c =
    let ps = c.args.parts.now in
    let keys : c.as_slice.result.now ≡ ints_from (pos 1) (length ps) = c.as_slice.ensures.value ∙ c.in_ok-keys.ensures in
    gives_as (IsChoice (ints_from (pos 1) (length ps)) ps) (InProduct ps) c.functions_on.result (λ f. in_product ps (length ps) f refl)
    (subst (λ (ks : List Val). GivesSet (IsChoice ks ps) c.functions_on.result) keys c.functions_on.ensures)
