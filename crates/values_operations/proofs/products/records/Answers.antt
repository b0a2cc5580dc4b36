use Rattle.std.proofs.Common.{◌≡◌, List, map, subst, sym, ◌∙◌}
use Rattle.std.specs.List.{Contains}
use Rattle.values_core.specs.Data.{Val, string}
use Rattle.values_core.specs.IsValue.{IsValue}
use Rattle.values_core.specs.Products.{InRecordSet}
use Rattle.values_core.specs.SetOperations.{GivesSet}
use Rattle.values_operations.specs.Choices.{AreKeysAndParts, IsChoice}
use Rattle.values_operations.proofs.Adapted.{in_record_set, string_keys}
use Rattle.values_operations.proofs.Listing.{gives_as}
use Rattle.values_operations.proofs.products.records.Goals as goal

pub functions_on-requires : goal.functions_on-requires
functions_on-requires c =
    let ns = c.args.names.now in
    let ps = c.args.parts.now in
    let keys : c.as_slice-2.result.now ≡ map string ns = c.as_slice-2.ensures.value ∙ c.in_ok-keys.ensures in
    let values = subst (λ (ks : List Val). (k : Val) → Contains ks k → IsValue k) (c.as_slice.ensures.value ∙ c.in_ok-keys.ensures) c.are_values-2.ensures in
    subst (λ (ks : List Val). AreKeysAndParts ks ps) (sym keys) (string_keys ns ps c.requires.few c.requires.as_many c.requires.different c.requires.sets c.are_values.ensures values)

pub returns : goal.returns
returns c =
    let ns = c.args.names.now in
    let ps = c.args.parts.now in
    let keys : c.as_slice-2.result.now ≡ map string ns = c.as_slice-2.ensures.value ∙ c.in_ok-keys.ensures in
    gives_as (IsChoice (map string ns) ps) (InRecordSet ns ps) c.functions_on.result (λ f. in_record_set ns ps f c.requires.as_many)
    (subst (λ (ks : List Val). GivesSet (IsChoice ks ps) c.functions_on.result) keys c.functions_on.ensures)
