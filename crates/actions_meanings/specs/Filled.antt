-- Next states that are partly filled, and the states that complete them.
use Rattle.std.specs.Prelude.{◌≡◌, ◌↔◌, ◌<◌, ℕ, true, List, map, length, All, Some, slice_get}
use Rattle.values_core.specs.Data.{Val}
use Rattle.values_core.specs.IsValue.{IsValue}
use Rattle.states_core.specs.States.{Values}
use Rattle.eval_meanings.specs.Contexts.{Context, Places}
use Rattle.eval_meanings.specs.Laws.{IsWithin}
use Rattle.actions_meanings.specs.Reads.{VariableSet}
use Rattle.actions_meanings.specs.declared.which.Which.{Which}
use Rattle.actions_meanings.specs.declared.which.Which.TheVariants as which

-- just the variables of the set have a value
abbrev pub Fills : VariableSet → Places → Type 0
Fills B p = (x : ℕ) → x < length p → ((B x ≡ true) ↔ ((v : Val) × (slice_get p x ≡ Some (Some v))))

-- a state of values that has all those of the places
pub record Completes (p : Places) (t : Values) : Type 0 where
  pub long : length t ≡ length p
  pub has : IsWithin p (map Some t)
  pub values : All IsValue t

-- the context in which an action is walked, with what the next state is so far: in Init it is the state itself
abbrev pub at_next : Which → Context → Places → Context
at_next which.Init c p = record { slots = c.slots; now = p; next = p }
at_next which.Action c p = record { slots = c.slots; now = c.now; next = p }
