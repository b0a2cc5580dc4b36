use Rattle.std.proofs.Common.{◌≡◌, ◌++◌, ◌∷◌, [], ◌↔◌, List, ap, sym, ◌∙◌, subst}
use Rattle.std.specs.List.{Contains}
use Rattle.values_core.specs.Data.{Val}
use Rattle.values_core.specs.Functions.{HasKeyTwice}
use Rattle.values_operations.proofs.Pairs.{function_as, one_once, in_one}
use Rattle.values_operations.proofs.functions.single.Goals as goal

pub function_from-requires : goal.function_from-requires
function_from-requires c =
    let k = c.args.key.now in
    let v = c.args.value.now in
    let lists : c.push_pair.new.pairs.items ≡ (k, v) ∷ [] = c.in_ok-push_pair.ensures ∙ ap (λ ps. ps ++ (k, v) ∷ []) c.new-pairs.ensures.items in
    subst (λ (ps : List (Val × Val)). ¬ HasKeyTwice ps) (sym lists) (one_once (k, v))

pub returns : goal.returns
returns c =
    let k = c.args.key.now in
    let v = c.args.value.now in
    let lists : c.push_pair.new.pairs.items ≡ (k, v) ∷ [] = c.in_ok-push_pair.ensures ∙ ap (λ ps. ps ++ (k, v) ∷ []) c.new-pairs.ensures.items in
    function_as (λ a w. Contains c.push_pair.new.pairs.items (a, w)) (λ a w. (a ≡ k) × (w ≡ v)) c.function_from.result
    (λ a w. subst (λ (ps : List (Val × Val)). Contains ps (a, w) ↔ ((a ≡ k) × (w ≡ v))) (sym lists) (in_one k v a w)) c.function_from.ensures
