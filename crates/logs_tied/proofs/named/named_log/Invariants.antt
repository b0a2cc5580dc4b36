use Rattle.logs_tied.specs.Naming.{IsNaming}
use Rattle.logs_tied.proofs.named.named_log.Given as goal

abbrev pub invariant-loop-number : goal.invariant-loop-number
invariant-loop-number l = IsNaming l.logs l.states l.so_far.cut l.so_far.lines l.number
