use Rattle.std.proofs.Common.{◌+◌, List, subst, sym}
use Rattle.values_core.specs.Data.{Val}
use Rattle.values_core.specs.Sets.{IsSetOf}
use Rattle.values_operations.specs.Choices.{AreNumbered}
use Rattle.values_operations.specs.Subsets.{AreMembers, IsSubsetOf}
use Rattle.values_operations.proofs.Subsets.{subset_members}
use Rattle.values_operations.proofs.Taking.{numbered_push}
use Rattle.values_operations.proofs.products.all_subsets.Goals as goal

pub subset_from-requires : goal.subset_from-requires
subset_from-requires c = subst (λ (vs : List Val). AreMembers vs) (sym c.in_ok-some.ensures) (subset_members c.args.members.now c.loop-number.number c.requires.fit)

pub loop-number-preserved : goal.loop-number-preserved
loop-number-preserved c =
    let xs = c.args.members.now in
    let k = c.loop-number.number in
    let made : IsSubsetOf xs k c.in_ok-subset.subset = subst (λ (vs : List Val). IsSetOf vs c.in_ok-subset.subset) c.in_ok-some.ensures c.in_ok-subset.ensures in
    subst (λ (vs : List Val). AreNumbered (IsSubsetOf xs) (k + 1) vs) (sym c.in_ok-push_value.ensures) (numbered_push (IsSubsetOf xs) k c.loop-number.subsets.items c.in_ok-subset.subset c.loop-number.invariant made)
