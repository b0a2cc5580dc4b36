-- What a specification gives to a reader of logs.
use Rattle.std.specs.Prelude.{ℕ, List, Option}
use Rattle.states_core.specs.declared.var_id.VarId.{VarId}
use Rattle.logs_updates.specs.declared.update.Update.{Update}

-- operators of level at most 2 with their numbers of parameters, variables, and which operators have a form where the
-- variables of these updates are fixed before them
pub record Setting : Type 1 where
  pub operator : List ℕ → Option (ℕ × ℕ)
  pub variable : List ℕ → Option VarId
  pub HasForm : ℕ → List Update → Type 0
