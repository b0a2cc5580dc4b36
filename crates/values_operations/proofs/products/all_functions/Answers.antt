use Rattle.std.proofs.Common.{◌<◌, ◌+◌, List, subst, sym, arith}
use Rattle.values_core.specs.Data.{Val}
use Rattle.values_core.specs.Functions.{IsFunctionOf}
use Rattle.values_operations.specs.Choices.{AreNumbered, ArePairs, IsChoiceOf, choice}
use Rattle.values_operations.specs.Counts.{ways}
use Rattle.values_operations.specs.PartList.{part_list}
use Rattle.values_operations.proofs.Choosing.{choice_each}
use Rattle.values_operations.proofs.Taking.{numbered_push}
use Rattle.values_operations.proofs.Ways.{chosen_pairs}
use Rattle.values_operations.proofs.products.all_functions.Goals as goal

pub function_of-requires : goal.function_of-requires
function_of-requires c =
    let ps = part_list c.args.parts in
    let below : c.loop-number.number < ways ps = omega (arith, c.requires.all) in
    subst (λ (qs : List (Val × Val)). ArePairs qs) (sym c.in_ok-pairs.ensures) (chosen_pairs c.args.keys.now ps (choice ps c.loop-number.number) c.requires.fit (choice_each ps c.loop-number.number below))

pub loop-number-preserved : goal.loop-number-preserved
loop-number-preserved c =
    let ks = c.args.keys.now in
    let ps = part_list c.args.parts in
    let k = c.loop-number.number in
    let made : IsChoiceOf ks ps k c.in_ok-function.function = subst (λ (qs : List (Val × Val)). IsFunctionOf qs c.in_ok-function.function) c.in_ok-pairs.ensures c.in_ok-function.ensures in
    subst (λ (fs : List Val). AreNumbered (IsChoiceOf ks ps) (k + 1) fs) (sym c.in_ok-push_value.ensures) (numbered_push (IsChoiceOf ks ps) k c.loop-number.functions.items c.in_ok-function.function c.loop-number.invariant made)
