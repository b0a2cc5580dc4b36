-- Which definitions of a program use which. A definition uses another where a name that is free in its text means the other: a use of a name that the
-- configuration replaces is one of what stands in its place. Definitions are told by their indices in the order of the text.
use Rattle.std.specs.Prelude.{◌≡◌, ℕ, true, false, List, [], Some, slice_get}
use Rattle.reading_trees.specs.declared.config.Config.{Config}
use Rattle.reading_trees.specs.declared.expr.Definition.{Definition}
use Rattle.reading_trees.specs.declared.module.Program.{Program}
use Rattle.names_scopes.specs.declared.meant.Meant.TheVariants as meant
use Rattle.names_scopes.specs.Mentions.{mentions, is_one_of}
use Rattle.names_program.specs.InUnits.{definitions_in}
use Rattle.names_program.specs.Names.{by_index, program_meaning}

-- the name means the definition of that index
abbrev pub MeansDefinition : Program → Config → List ℕ → ℕ → Type 0
MeansDefinition p c n j = (needed : ℕ) × (program_meaning p c [] by_index n ≡ Some (record { needed = needed; meant = meant.Definition (record { 0 = j }) }))

pub record UsesDefinition (p : Program) (c : Config) (i j : ℕ) : Type 0 where
  pub definition : Definition
  pub stands : slice_get (definitions_in p.units) i ≡ Some definition
  pub name : List ℕ
  pub no_parameter : is_one_of name definition.params ≡ false
  pub mentioned : mentions name definition.body ≡ true
  pub means : MeansDefinition p c name j

-- uses that lead from the one to the other
pub data LeadsTo (p : Program) (c : Config) : ℕ → ℕ → Type 0 where
  at_once : (i j : ℕ) → UsesDefinition p c i j → LeadsTo p c i j
  through : (i j k : ℕ) → UsesDefinition p c i j → LeadsTo p c j k → LeadsTo p c i k

abbrev pub UsesItself : Program → Config → ℕ → Type 0
UsesItself p c i = LeadsTo p c i i
