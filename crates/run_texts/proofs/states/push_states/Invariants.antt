use Rattle.std.proofs.Common.{◌≡◌, ◌++◌, string_bytes, drop}
use Rattle.run_texts.specs.States.{states_text}
use Rattle.run_texts.proofs.states.push_states.Given as goal

abbrev pub invariant-loop-shown : goal.invariant-loop-shown
invariant-loop-shown l = string_bytes l.text ++ states_text l.names (drop l.shown-index l.shown-items) ≡ string_bytes l.initial.text ++ states_text l.names l.shown-items
