use Rattle.steps_filling.proofs.choosing.seen_whole.Given as goal

abbrev pub invariant-loop-see : goal.invariant-loop-see
invariant-loop-see l = Unit {0}
