use Rattle.actions_early_reads.proofs.Last.{LastBelow}
use Rattle.actions_early_reads.proofs.timely.last_prime.Given as goal

abbrev pub invariant-loop-index : goal.invariant-loop-index
invariant-loop-index l = LastBelow l.steps l.index l.found
