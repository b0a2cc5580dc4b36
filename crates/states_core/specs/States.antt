-- What a state is, and a state that is shown with its mark.
use Rattle.std.specs.Prelude.{List}
use Rattle.values_core.specs.Data.{Val}
use Rattle.states_core.specs.declared.state.Mark.{Mark}
use Rattle.states_core.specs.declared.state.Shown.{Shown}

-- One value for each variable, in the order in which the variables are declared.
abbrev pub Values : Type 0
Values = List Val

-- This state, reached in this way.
abbrev pub shown : Mark → Values → Shown
shown mark state = record { mark = mark; state = state }
