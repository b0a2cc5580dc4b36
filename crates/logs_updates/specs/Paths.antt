-- A path into the value of a variable.
use Rattle.std.specs.Prelude.{List}
use Rattle.states_core.specs.declared.var_id.VarId.{VarId}
use Rattle.values_core.specs.Data.{Val}

-- a variable, and the keys that lead from its value to what stands at the path
pub record KeyPath : Type 0 where
  pub variable : VarId
  pub keys : List Val
