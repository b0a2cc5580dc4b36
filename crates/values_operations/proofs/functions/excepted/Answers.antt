use Rattle.std.proofs.Common.{◌≡◌, ◌↔◌, List, ap, map, subst, sym, ◌∙◌}
use Rattle.std.specs.List.{Contains}
use Rattle.std.specs.List.Sorted.{IsStrictlySortedBy}
use Rattle.values_core.specs.Data.{Val}
use Rattle.values_core.specs.Order.{val_cmp}
use Rattle.values_core.specs.Functions.{HasKeyTwice, pairs_in}
use Rattle.values_core.specs.FunctionLaws.{keys_ascending, pairs_ordered}
use Rattle.values_core.specs.FunctionOperations.{InExcept}
use Rattle.values_operations.specs.Changes.{replaced}
use Rattle.values_operations.proofs.Pairs.{function_as, in_except, except_once}
use Rattle.values_operations.proofs.functions.excepted.Goals as goal

pub replace-requires : goal.replace-requires
replace-requires c =
    let f = c.args.f.now in
    subst (λ (ps : List (Val × Val)). IsStrictlySortedBy val_cmp (map (λ p. p.0) ps)) (sym c.in_ok-pairs.ensures) (keys_ascending (pairs_in f) (pairs_ordered f c.is_value.ensures))

pub function_from-requires : goal.function_from-requires
function_from-requires c =
    let f = c.args.f.now in
    let lists : c.replace.new.pairs.items ≡ map (replaced c.args.key.now c.args.new) (pairs_in f) = c.replace.ensures ∙ ap (map (replaced c.args.key.now c.args.new)) c.in_ok-pairs.ensures in
    subst (λ (ps : List (Val × Val)). ¬ HasKeyTwice ps) (sym lists) (except_once f c.args.key.now c.args.new c.is_value.ensures)

pub returns : goal.returns
returns c =
    let f = c.args.f.now in
    let key = c.args.key.now in
    let new = c.args.new in
    let lists : c.replace.new.pairs.items ≡ map (replaced c.args.key.now c.args.new) (pairs_in f) = c.replace.ensures ∙ ap (map (replaced c.args.key.now c.args.new)) c.in_ok-pairs.ensures in
    function_as (λ k v. Contains c.replace.new.pairs.items (k, v)) (InExcept f key new) c.function_from.result
    (λ k v. subst (λ (ps : List (Val × Val)). Contains ps (k, v) ↔ InExcept f key new k v) (sym lists) (in_except f key new k v c.requires)) c.function_from.ensures
