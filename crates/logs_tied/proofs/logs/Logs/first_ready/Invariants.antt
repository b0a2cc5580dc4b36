use Rattle.logs_tied.proofs.Taking.{NoneReady}
use Rattle.logs_tied.proofs.logs.Logs.first_ready.Given as goal

abbrev pub invariant-loop-file : goal.invariant-loop-file
invariant-loop-file l = NoneReady l.self l.cut l.file
