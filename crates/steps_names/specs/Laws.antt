-- What the names of a specification in order tell.
use Rattle.std.specs.Prelude.{◌≡◌, ◌↔◌, ℕ, List, Some}
use Rattle.states_core.specs.declared.var_id.VarId.{VarId}
use Rattle.names_terms.specs.Named.{IsVariable}
use Rattle.names_terms.specs.declared.spec.Spec.{Spec}
use Rattle.names_specification_laws.specs.IsSpec.{IsSpec}
use Rattle.steps_names.specs.Names.{IsTold, names_of}

-- an operator is told just where the definition with its name may be an action
abbrev pub OperatorsAreTold : Type 0
OperatorsAreTold = (s : Spec) (name : List ℕ) (k parameters : ℕ) → IsSpec s → ((names_of s).operator name ≡ Some (k, parameters)) ↔ IsTold s name k parameters

-- a variable is told just where it has the name
abbrev pub VariablesAreTold : Type 0
VariablesAreTold = (s : Spec) (name : List ℕ) (v : VarId) → IsSpec s → ((names_of s).variable name ≡ Some v) ↔ IsVariable s.variables name v.0
