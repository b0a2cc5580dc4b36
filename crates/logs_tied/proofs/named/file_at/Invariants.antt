use Rattle.logs_tied.proofs.Choosing.{NoneThere}
use Rattle.logs_tied.proofs.named.file_at.Given as goal

abbrev pub invariant-loop-file : goal.invariant-loop-file
invariant-loop-file l = NoneThere l.logs l.cut l.at l.file
