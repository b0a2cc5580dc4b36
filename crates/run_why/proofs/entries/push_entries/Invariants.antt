use Rattle.std.proofs.Common.{drop, string_bytes}
use Rattle.run_texts.specs.Answers.{named}
use Rattle.run_why.specs.Telling.{SoFar}
use Rattle.run_why.proofs.entries.push_entries.Given as goal

abbrev pub invariant-loop-entry : goal.invariant-loop-entry
invariant-loop-entry l =
    SoFar l.subject.spec.now l.subject.line.now (named l.labels) l.most l.entries l.left (drop l.entry-index l.entries) (string_bytes l.initial.text) (string_bytes l.text)
