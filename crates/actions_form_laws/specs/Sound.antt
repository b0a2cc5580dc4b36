-- What Init, Next and the definitions with names of a specification in order are made of.
use Rattle.std.specs.Prelude.{◌≡◌, ◌≢◌, ℕ, [], length, Some, slice_get}
use Rattle.names_terms.specs.declared.operator.Operator.{Operator}
use Rattle.names_terms.specs.declared.spec.Spec.{Spec}
use Rattle.actions_early_reads.specs.Orderly.{IsSoundThroughout}
use Rattle.names_specification_laws.specs.IsSpec.{IsSpec}

-- levels are those of the parts, and variables are those of the specification
abbrev pub SpecsAreSound : Type 0
SpecsAreSound = (s : Spec) → IsSpec s → IsSoundThroughout s.operators (length s.variables) s.init × IsSoundThroughout s.operators (length s.variables) s.next

-- the same of each definition with a name
abbrev pub OperatorsAreSound : Type 0
OperatorsAreSound = (s : Spec) → IsSpec s → (k : ℕ) (o : Operator) → slice_get s.operators k ≡ Some o → o.name ≢ [] → IsSoundThroughout s.operators (length s.variables) o.body
