-- What the updates of a line make of a state: the places that they fill, or the variable whose updates have no result.
use Rattle.std.specs.Prelude.{◌≡◌, ◌<◌, ℕ, true, false, List, [], ◌∷◌, ◌++◌, length, Some, None, slice_get}
use Rattle.values_core.specs.Data.{Val}
use Rattle.values_core.specs.IsValue.{IsValue}
use Rattle.states_core.specs.States.{Values}
use Rattle.eval_meanings.specs.Contexts.{Places}
use Rattle.logs_updates.specs.Changes.{ApplyAll}
use Rattle.logs_updates.specs.declared.update.Update.{Update}
use Rattle.steps_lines_defs.specs.Asks.{updated, updates_of}

-- the updates of the variable, one after the other, make this of its value
abbrev pub Becomes : List Update → Values → ℕ → Val → Type 0
Becomes us s x w = (v : Val) × (slice_get s x ≡ Some v) × ApplyAll (updates_of x us) v w

-- each variable that is updated has a value that its updates make, and no other place has one
pub record AreUpdated (us : List Update) (s : Values) (p : Places) : Type 0 where
  pub long : length p ≡ length s
  pub there : (x : ℕ) → updated us x ≡ true → (w : Val) × Becomes us s x w × IsValue w × (slice_get p x ≡ Some (Some w))
  pub others : (x : ℕ) → x < length s → updated us x ≡ false → slice_get p x ≡ Some None

abbrev pub HaveResults : List Update → Values → Type 0
HaveResults us s = (p : Places) × AreUpdated us s p

-- the first update that has no result is of the variable
pub record IsStuck (us : List Update) (s : Values) (x : ℕ) : Type 0 where
  pub before : List Update
  pub update : Update
  pub behind : List Update
  pub all : us ≡ before ++ update ∷ behind
  pub is : update.path.variable.0 ≡ x
  pub earlier : (y : ℕ) → updated before y ≡ true → (w : Val) × Becomes before s y w
  pub stuck : (w : Val) → ¬ Becomes (before ++ update ∷ []) s x w
