use Rattle.run_wide.proofs.AskingLemmas.{NoneBefore}
use Rattle.run_wide.proofs.needing.first_asking.Given as goal

abbrev pub invariant-loop-root : goal.invariant-loop-root
invariant-loop-root l = NoneBefore l.program l.config l.name l.roots l.root-index
