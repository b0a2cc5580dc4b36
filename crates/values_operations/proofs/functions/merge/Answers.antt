use Rattle.std.proofs.Common.{◌≡◌, ◌++◌, ◌↔◌, List, ap, subst, sym, ◌∙◌}
use Rattle.std.specs.List.{Contains}
use Rattle.values_core.specs.Data.{Val}
use Rattle.values_core.specs.Functions.{HasKeyTwice, keys_in, pairs_in}
use Rattle.values_core.specs.FunctionOperations.{GivesFunction, InMerge}
use Rattle.values_operations.specs.Changes.{outside}
use Rattle.values_operations.proofs.OtherKeys.{in_merge, merge_once}
use Rattle.values_operations.proofs.Pairs.{on_functions, function_as}
use Rattle.values_operations.proofs.functions.merge.Goals as goal

pub function_from-requires : goal.function_from-requires
function_from-requires c =
    let f = c.args.f.now in
    let g = c.args.g.now in
    let lists : c.push_outside.new.pairs.items ≡ pairs_in f ++ outside (keys_in f) (pairs_in g) =
    c.in_ok-push_outside.ensures ∙ ap (λ ps. ps ++ outside (keys_in f) c.in_ok-theirs.theirs.items) c.in_ok-pairs.ensures ∙ ap (λ qs. pairs_in f ++ outside (keys_in f) qs) c.in_ok-theirs.ensures in
    subst (λ (ps : List (Val × Val)). ¬ HasKeyTwice ps) (sym lists) (merge_once f g c.is_value.ensures c.is_value-2.ensures)

pub returns : goal.returns
returns c =
    let f = c.args.f.now in
    let g = c.args.g.now in
    let lists : c.push_outside.new.pairs.items ≡ pairs_in f ++ outside (keys_in f) (pairs_in g) =
    c.in_ok-push_outside.ensures ∙ ap (λ ps. ps ++ outside (keys_in f) c.in_ok-theirs.theirs.items) c.in_ok-pairs.ensures ∙ ap (λ qs. pairs_in f ++ outside (keys_in f) qs) c.in_ok-theirs.ensures in
    on_functions f g (GivesFunction (InMerge f g)) c.function_from.result c.in_ok-expect_function.ensures c.in_ok-expect_function-2.ensures
    (function_as (λ k v. Contains c.push_outside.new.pairs.items (k, v)) (InMerge f g) c.function_from.result
    (λ k v. subst (λ (ps : List (Val × Val)). Contains ps (k, v) ↔ InMerge f g k v) (sym lists) (in_merge f g k v)) c.function_from.ensures)
