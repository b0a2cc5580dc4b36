-- What resolving gives is a specification in order.
use Rattle.std.specs.Prelude.{◌≢◌, ℕ, List, [], All, AllPairs, Option, Ok}
use Rattle.reading_trees.specs.declared.config.Config.{Config}
use Rattle.reading_trees.specs.declared.module.Program.{Program}
use Rattle.names_terms.specs.declared.spec.Spec.{Spec}
use Rattle.names_program.specs.InUnits.{variables_in, definitions_in}
use Rattle.names_program.specs.Names.{names_declared, names_defined}
use Rattle.names_resolving.specs.Resolved.{Resolved}
use Rattle.names_specification_laws.specs.Formed.{UnitsAreFormed}
use Rattle.names_specification_laws.specs.IsSpec.{IsSpec}

-- A program as the reader gives it: its trees are those of the grammar, no two variables have one name and no two definitions, and each definition has
-- a name.
pub record IsWellFormed (p : Program) : Type 0 where
  pub formed : UnitsAreFormed p.units
  pub variables_differ : AllPairs (λ a b. a ≢ b) (names_declared (variables_in p.units))
  pub definitions_differ : AllPairs (λ a b. a ≢ b) (names_defined (definitions_in p.units))
  pub definitions_named : All (λ n. n ≢ []) (names_defined (definitions_in p.units))

-- what resolving gives for a program of the reader
abbrev pub ResolvedAreInOrder : Type 0
ResolvedAreInOrder = (p : Program) (c : Config) (silent : Option (List ℕ)) (s : Spec) → IsWellFormed p → Resolved p c silent (Ok s) → IsSpec s
