use Rattle.std.proofs.Common.{arith, ◌<◌, ◌∙◌, length, inl, refl, sym}
use Rattle.states_layers.proofs.FoundLemmas.{merged_step, merged_skip}
use Rattle.states_layers.proofs.Lookups.{there}
use Rattle.states_layers.proofs.layer.merge.Goals as goal

pub loop-entry-preserved-then-len-most : goal.loop-entry-preserved-then-len-most
loop-entry-preserved-then-len-most g c = let lt : c.args.most < length c.loop-entry.layer.entries = omega arith in
    merged_skip _ _ _ _ _ _ c.loop-entry.invariant lt

pub loop-entry-preserved-then-contains_key : goal.loop-entry-preserved-then-contains_key
loop-entry-preserved-then-contains_key g c =
    merged_step _ _ _ _ _ _ _ c.loop-entry.invariant
    (inl (there g.met.E.Member.same g.met.E.Eq.laws.refl _ _ (sym c.contains_key.ensures ∙ c.if-contains_key.true), refl))

pub loop-entry-preserved : goal.loop-entry-preserved
loop-entry-preserved g c = merged_step _ _ _ _ _ _ _ c.loop-entry.invariant (rw c.in_ok-member.ensures at c.in_ok-add.ensures)
