use Rattle.states_verdicts.specs.Passes.{HasCome}
use Rattle.states_verdicts.proofs.checking.pass.Given as goal

abbrev pub invariant-loop-index : goal.invariant-loop-index
invariant-loop-index g l = HasCome (g.P.Pairs.asks l.fn.pairs) l.fn.states l.index l.came.line l.came.silents
