-- The two ways in which a module and a program with an instance of it see a state.
use Rattle.std.specs.Prelude.{◌≡◌, ℕ, Some, slice_get}
use Rattle.values_core.specs.Data.{Val}
use Rattle.eval_meanings.specs.Contexts.{Places}

-- what is known of a variable by one way of seeing is known by the other of one that stands for it
abbrev pub AreSeen : (ℕ → ℕ → Type 0) → (Places → Places) → (Places → Places) → Type 0
AreSeen Stands see look = (x y : ℕ) → Stands x y → (places : Places) (v : Val) → slice_get (see places) x ≡ Some (Some v) → slice_get (look places) y ≡ Some (Some v)
