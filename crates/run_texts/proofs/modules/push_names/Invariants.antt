use Rattle.std.proofs.Common.{◌≡◌, ◌++◌, string_bytes, drop}
use Rattle.run_texts.specs.Modules.{names_text}
use Rattle.run_texts.proofs.modules.push_names.Given as goal

abbrev pub invariant-loop-name : goal.invariant-loop-name
invariant-loop-name l = string_bytes l.text ++ names_text (drop l.name-index l.name-items) ≡ string_bytes l.initial.text ++ names_text l.names
