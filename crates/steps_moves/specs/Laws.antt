-- What is seen, of places and of the states that complete them.
use Rattle.std.specs.Prelude.{◌≡◌, ◌<◌, List, All, Some, length, map}
use Rattle.states_core.specs.States.{Values}
use Rattle.eval_meanings.specs.Contexts.{Places}
use Rattle.logs_updates.specs.declared.update.See.{See}
use Rattle.steps_lines_defs.specs.Asks.{AreSeen}
use Rattle.actions_meanings.specs.Filled.{Completes}
use Rattle.steps_found_states.specs.Walks.{Agrees}

-- Where each place is filled and agrees with what is seen, which is of variables that are there, the state that the places are shows it.
abbrev pub WholeShows : Type 0
WholeShows = (sees : List See) (p : Places) (t : Values) → map Some t ≡ p → All (λ see. see.path.variable.0 < length p) sees → Agrees sees p → AreSeen sees t

-- Places that a state with what is seen completes agree with it.
abbrev pub ShownAgrees : Type 0
ShownAgrees = (sees : List See) (p : Places) (t : Values) → Completes p t → AreSeen sees t → Agrees sees p
