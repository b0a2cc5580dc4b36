use Rattle.std.proofs.Common.{take}
use Rattle.run_texts.specs.Answers.{named}
use Rattle.run_near_lines.specs.Adding.{Adds, NearSays, OneSays}
use Rattle.run_near_lines.proofs.keeping.keep_ends.Given as goal

abbrev pub invariant-loop-end : goal.invariant-loop-end
invariant-loop-end l = Adds l.room (OneSays (NearSays l.subject.spec.now l.subject.line.now (named l.subject.labels.now)) (take l.end-index l.ends)) l.initial.texts.keys l.texts.keys
