-- For the prover: parts that are tests.
use Rattle.std.specs.Prelude.{◌≡◌, ℕ, length}
use Rattle.actions_meanings.specs.Forms.{test, unchanged_form}
use Rattle.eval_meanings.specs.Contexts.{Table}
use Rattle.eval_meanings.specs.Unchanged.{behind}
use Rattle.actions_rows.specs.declared.part.Part.{Part}
use Rattle.actions_rows.specs.declared.part.Part.TheVariants as part

-- no variable and no tuple stands behind what is unchanged, where so many slots are in scope
abbrev pub IsTested : Table → ℕ → Part → Type 0
IsTested ops n (part.Unchanged at e) = unchanged_form at (behind ops (length ops) n e.now) ≡ test
IsTested ops n p = Unit {0}
