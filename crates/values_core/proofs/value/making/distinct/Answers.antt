use Rattle.std.proofs.Common.{refl}
use Rattle.values_core.proofs.SetLemmas.{ascending_of}
use Rattle.values_core.proofs.value.making.distinct.Goals as goal

pub returns-then-are_ascending : goal.returns-then-are_ascending
returns-then-are_ascending c = record {
  ascending = c.are_ascending.ensures c.if-are_ascending.true;
  same = λ v. (λ h. h, λ h. h);
}

pub returns : goal.returns
returns c = ascending_of c.args.members.items _ _ c.sort_unstable.ensures.permutation c.sort_unstable.ensures.sorted c.dedup.ensures.filtered
