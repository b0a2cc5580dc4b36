-- The code and the name of why a line of a file of states is refused.
use Rattle.std.specs.Prelude.{ℕ, List, codes}
use Rattle.states_files.specs.declared.kind.StateKind.{StateKind}
use Rattle.states_files.specs.declared.kind.StateKind.TheVariants as states

abbrev pub state_code : StateKind → List ℕ
state_code states.NotJson = codes "X1 NotJson"
state_code (states.BadField key) = codes "X2 BadField"
state_code states.UnknownVariable = codes "X3 UnknownVariable"
state_code states.MissingVariable = codes "X4 MissingVariable"
state_code states.BadValue = codes "X5 BadValue"
