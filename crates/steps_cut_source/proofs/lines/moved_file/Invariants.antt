use Rattle.steps_cut_source.proofs.Taking.{AreSame}
use Rattle.steps_cut_source.proofs.lines.moved_file.Given as goal

abbrev pub invariant-loop-file : goal.invariant-loop-file
invariant-loop-file l = AreSame l.from l.to l.file
