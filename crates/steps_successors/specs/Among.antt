-- States among places.
use Rattle.std.specs.Prelude.{◌≡◌, ◌⊎◌, List, Option, Some, map, Contains}
use Rattle.indexmap.specs.IndexSet.{insert_key}
use Rattle.values_core.specs.Data.{Val}
use Rattle.states_core.specs.States.{Values}
use Rattle.states_core.specs.StateOrder.{state_eq}
use Rattle.states_core.specs.Partials.{HasEmpty}

-- the state is one of these places, each of which has a value then
abbrev pub IsAmong : List (List (Option Val)) → Values → Type 0
IsAmong found t = Contains found (map Some t)

-- the state that the places are is added to the states where it is not there; places of which one is empty are none
abbrev pub Adds : List (Option Val) → List Values → List Values → Type 0
Adds p old now = ((s : Values) × (map Some s ≡ p) × (now ≡ insert_key state_eq old s)) ⊎ (HasEmpty p × (now ≡ old))
