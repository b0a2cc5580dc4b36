-- The lines on files of states that are refused.
use Rattle.std.specs.Prelude.{ℕ, List, ◌++◌}
use Rattle.states_files.specs.declared.kind.StateKind.{StateKind}
use Rattle.states_files.specs.declared.kind.StateKind.TheVariants as states
use Rattle.states_files.specs.FaultCodes.{state_code}
use Rattle.states_files.specs.declared.refusal.StateRefusal.{StateRefusal}
use Rattle.run_texts.specs.Places.{detail, refused}
use Rattle.run_texts.specs.Logs.{at_line}

-- a line of the file of states is refused for this
abbrev pub given_refusal : List ℕ → StateKind → ℕ → List ℕ
given_refusal name states.NotJson line = refused (state_code states.NotJson) (at_line name line)
given_refusal name (states.BadField key) line =
    refused (state_code (states.BadField key)) (detail key ++ at_line name line)
given_refusal name states.UnknownVariable line = refused (state_code states.UnknownVariable) (at_line name line)
given_refusal name states.MissingVariable line = refused (state_code states.MissingVariable) (at_line name line)
given_refusal name states.BadValue line = refused (state_code states.BadValue) (at_line name line)

abbrev pub states_refusal : List ℕ → StateRefusal → List ℕ
states_refusal name refusal = given_refusal name refusal.kind refusal.line
