use Rattle.std.proofs.Common.{length}
use Rattle.states_files.proofs.WalkLemmas.{IsWalked}
use Rattle.states_files.proofs.file.read_lines.Given as goal

abbrev pub invariant-loop-walked : goal.invariant-loop-walked
invariant-loop-walked l = IsWalked l.names l.fn.bytes l.number l.found l.rest

abbrev pub decreases-loop-walked : goal.decreases-loop-walked
decreases-loop-walked l = length l.rest
