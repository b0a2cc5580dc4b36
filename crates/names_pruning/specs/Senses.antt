-- What names mean where each definition is told by itself, and not by its index, which changes where others go.
use Rattle.std.specs.Prelude.{ℕ, List, [], Option, Some, None, slice_get}
use Rattle.reading_trees.specs.declared.config.Config.{Config}
use Rattle.reading_trees.specs.declared.expr.Definition.{Definition}
use Rattle.reading_trees.specs.declared.module.Program.{Program}
use Rattle.names_scopes.specs.declared.meant.Meant.{Meant}
use Rattle.names_scopes.specs.declared.meant.Meant.TheVariants as meant
use Rattle.names_scopes.specs.declared.meant.Named.{Named}
use Rattle.names_program.specs.InUnits.{definitions_in}
use Rattle.names_program.specs.Names.{by_index, definition_index, program_meaning}

pub data Sense : Type 0 where
  no_sense : Sense
  -- a definition, and how many arguments the name takes
  is_defined : ℕ → Option Definition → Sense
  -- anything else
  is_given : Named → Sense

abbrev pub sense_of_meant : List Definition → ℕ → Meant → Sense
sense_of_meant ds needed (meant.Definition k) = is_defined needed (slice_get ds k.0)
sense_of_meant ds needed (meant.Slot i) = is_given (record { needed = needed; meant = meant.Slot i })
sense_of_meant ds needed (meant.Variable x) = is_given (record { needed = needed; meant = meant.Variable x })
sense_of_meant ds needed (meant.Known v) = is_given (record { needed = needed; meant = meant.Known v })
sense_of_meant ds needed (meant.Set s) = is_given (record { needed = needed; meant = meant.Set s })
sense_of_meant ds needed (meant.Standard o) = is_given (record { needed = needed; meant = meant.Standard o })

abbrev pub sense_of : List Definition → Option Named → Sense
sense_of ds None = no_sense
sense_of ds (Some w) = sense_of_meant ds w.needed w.meant

-- what a name of a program means; of the values of constants nothing is asked
abbrev pub sense : Program → Config → List ℕ → Sense
sense p c n = sense_of (definitions_in p.units) (program_meaning p c [] by_index n)

abbrev pub definition_at : List Definition → Option ℕ → Option Definition
definition_at ds None = None
definition_at ds (Some i) = slice_get ds i

-- the definition that has the name, as one behind INIT is looked up
abbrev pub definition_named : Program → List ℕ → Option Definition
definition_named p n = definition_at (definitions_in p.units) (definition_index p n)
