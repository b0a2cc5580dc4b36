use Rattle.std.proofs.Common.{◌≡◌, ◌++◌, drop, string_bytes}
use Rattle.run_texts.specs.Answers.{named}
use Rattle.run_why.specs.Lines.{whys_text}
use Rattle.run_why.proofs.lines.push_whys.Given as goal

abbrev pub invariant-loop-why : goal.invariant-loop-why
invariant-loop-why l = string_bytes l.text ++ whys_text (named l.labels) l.at (drop l.why-index l.whys) ≡ string_bytes l.initial.text ++ whys_text (named l.labels) l.at l.whys
