-- For the prover: what a variable's value is in the midst of a line's updates.
use Rattle.std.specs.Prelude.{◌≡◌, ℕ, Option, Some, None, slice_get}
use Rattle.values_core.specs.Data.{Val}
use Rattle.values_core.specs.IsValue.{IsValue}
use Rattle.states_core.specs.States.{Values}
use Rattle.eval_meanings.specs.Contexts.{Places}
use Rattle.logs_updates.specs.Changes.{Changes, Does, Finds}
use Rattle.logs_updates.specs.declared.update.Update.{Update}

-- what the place has, or else this
abbrev pub place_or : Option (Option Val) → Option Val → Option Val
place_or (Some (Some v)) o = Some v
place_or (Some None) o = o
place_or None o = o

-- the value of the variable: that of its place, where it has one, and else that of the state
abbrev pub value_now : Places → Values → ℕ → Option Val
value_now p s x = place_or (slice_get p x) (slice_get s x)

-- there is a value, and this is what the update makes of it
abbrev pub Becomes : Update → Option Val → Option Val → Type 0
Becomes u o r = (v : Val) × (o ≡ Some v) × IsValue v × Finds (Changes (Does u.op) u.path.keys v) r
