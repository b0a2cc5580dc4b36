use Rattle.actions_early_reads.proofs.walking.Walk.+behind.Given as goal

abbrev pub decreases-behind : goal.decreases-behind
decreases-behind l = l.bound
