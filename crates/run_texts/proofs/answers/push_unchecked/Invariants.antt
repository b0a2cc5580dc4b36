use Rattle.std.proofs.Common.{◌≡◌, ◌++◌, string_bytes, drop}
use Rattle.run_texts.specs.Answers.{unchecked_text}
use Rattle.run_texts.proofs.answers.push_unchecked.Given as goal

abbrev pub invariant-loop-what : goal.invariant-loop-what
invariant-loop-what l = string_bytes l.text ++ unchecked_text (drop l.what-index l.what-items) ≡ string_bytes l.initial.text ++ unchecked_text l.unchecked
