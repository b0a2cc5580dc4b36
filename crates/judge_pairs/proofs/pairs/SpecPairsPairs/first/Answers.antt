use Rattle.judge_pairs.proofs.pairs.SpecPairsPairs.first.Goals as goal

pub returns : goal.returns
returns c = c.tell_init.ensures
