use Rattle.std.proofs.Common.{All, take}
use Rattle.eval_meanings.specs.Laws.{KnowsValues}
use Rattle.eval_known.proofs.spec.knows_terms.Given as goal

abbrev pub invariant-loop-term : goal.invariant-loop-term
invariant-loop-term l = All KnowsValues (take l.term-index l.term-items)
