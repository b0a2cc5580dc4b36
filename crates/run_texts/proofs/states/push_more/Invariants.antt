use Rattle.std.proofs.Common.{◌≡◌, ◌++◌, string_bytes, drop}
use Rattle.run_texts.specs.States.{more_text}
use Rattle.run_texts.proofs.states.push_more.Given as goal

abbrev pub invariant-loop-number : goal.invariant-loop-number
invariant-loop-number l = string_bytes l.text ++ more_text l.names l.state (drop l.number-index l.order) ≡ string_bytes l.initial.text ++ more_text l.names l.state l.order
