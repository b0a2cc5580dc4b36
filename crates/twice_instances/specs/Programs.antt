-- An instance whose units stand among those of a program: its definitions stand in the program's table, and that is all that the theorem asks of them.
use Rattle.std.specs.Prelude.{◌≡◌, ◌⊎◌, ◌+◌, ℕ, List, [], ◌++◌, length, Some, slice_get}
use Rattle.values_core.specs.Data.{Val}
use Rattle.reading_trees.specs.declared.config.Config.{Config}
use Rattle.reading_trees.specs.declared.expr.Definition.{Definition}
use Rattle.reading_trees.specs.declared.module.Program.{Program}
use Rattle.reading_trees.specs.declared.module.Unit.{Unit as ModuleUnit}
use Rattle.names_terms.specs.declared.operator.Operator.{Operator}
use Rattle.names_terms.specs.declared.operator.Own.{Own}
use Rattle.names_terms.specs.Terms.{Term}
use Rattle.names_term_parts.specs.Slots.{UsesSmaller}
use Rattle.names_scopes.specs.declared.meant.Entry.{Entry}
use Rattle.names_scopes.specs.Scopes.{bind}
use Rattle.names_meanings.specs.Means.{Means}
use Rattle.names_program.specs.InUnits.{constants_in, definitions_in, variables_in}
use Rattle.names_program.specs.Names.{AreNames, Numbers}
use Rattle.names_program.specs.Standard.{brought}
use Rattle.names_tables.specs.Tables.{HasOwn, IsTable}
use Rattle.names_instances.specs.Instances.{constants_made, definition_made, instance_units, names_own, stand_ins}
use Rattle.names_instances.specs.Made.{StandIns}
use Rattle.names_instances.specs.declared.substitutes.Substitute.{Substitute}
use Rattle.twice_instances.specs.Alikeness.{LikeRows}
use Rattle.twice_instances.specs.Seen.{IsSubstitute}
use Rattle.twice_instances.specs.Rows.{AreOfOne, IsInstance, row_of}
use Rattle.twice_instances.specs.Standing.{NamesStand}
use Rattle.twice_instances.specs.Trees.{ArePlain, IsFit}

-- what stands in the instance I of a module for its names
abbrev pub instance_names : List ℕ → Program → List Substitute → StandIns
instance_names i m ws = stand_ins i (variables_in m.units) (names_own m.units) ws (brought m.standard)

-- a definition of the module in its table
pub record IsRow (own : List Entry) (ops : List Operator) (number : Numbers) (x : ℕ) (d : Definition) : Type 0 where
  pub row : ℕ
  pub uses : Own
  pub body : Term
  pub numbered : number x ≡ Some row
  pub stands : slice_get ops row ≡ Some (row_of d.name (length d.params) uses body)
  pub means : Means own ops (bind [] d.params) d.body body

-- The module is read over a table, with names of its own: each of its definitions has a row. Its trees are such as an instance can be made of.
pub record IsRead (m : Program) (own : List Entry) (ops : List Operator) (number : Numbers) : Type 0 where
  pub smaller : UsesSmaller ops
  pub definitions : (x : ℕ) (d : Definition) → slice_get (definitions_in m.units) x ≡ Some d → IsRow own ops number x d
  pub fit : (x : ℕ) (d : Definition) → slice_get (definitions_in m.units) x ≡ Some d → IsFit d.body × ArePlain d.params

-- the place of a definition of the instance among those of the program, where these units stand before it
abbrev pub place_of_made : List ModuleUnit → List ℕ → Program → List Substitute → ℕ → ℕ
place_of_made us i m ws x = length (definitions_in us) + (length (definitions_in (constants_made i ws (constants_in m.units))) + x)

abbrev pub numbers_of_made : List ModuleUnit → List ℕ → Program → List Substitute → Numbers → Numbers
numbers_of_made us i m ws renumber x = renumber (place_of_made us i m ws x)

-- The instance I of the module m, by these substitutes, is among the units of the program q, which has a table.
pub record IsAmong (substitute : ℕ → ℕ) (variables : ℕ) (i : List ℕ) (m : Program) (ws : List Substitute) (own : List Entry) (ops : List Operator) (number : Numbers) (q : Program) (c : Config) (values : List Val) (us vs : List ModuleUnit) (others : List Entry) (all : List Operator) (renumber : Numbers) : Type 0 where
  pub read : IsRead m own ops number
  pub units : q.units ≡ us ++ instance_units i m ws ++ vs
  pub table : IsTable q c values renumber all
  pub are : AreNames q c values renumber others
  -- a definition of the instance uses itself as that of the module does
  pub marked : (x : ℕ) (d : Definition) → slice_get (definitions_in m.units) x ≡ Some d → (r : IsRow own ops number x d) → HasOwn q c (place_of_made us i m ws x) (definition_made i (instance_names i m ws) d) r.uses
  pub names : NamesStand (IsSubstitute substitute variables) (λ k j. AreOfOne (definitions_in m.units) number (numbers_of_made us i m ws renumber) k j ⊎ LikeRows (IsSubstitute substitute variables) ops all k j) (instance_names i m ws) own others

-- So the laws on instances hold of it.
abbrev pub AmongIsInstance : Type 0
AmongIsInstance =
    (substitute : ℕ → ℕ) (variables : ℕ) (i : List ℕ) (m : Program) (ws : List Substitute) (own : List Entry) (ops : List Operator) (number : Numbers) (q : Program) (c : Config) (values : List Val) (us vs : List ModuleUnit) (others : List Entry) (all : List Operator) (renumber : Numbers)
    → IsAmong substitute variables i m ws own ops number q c values us vs others all renumber
    → IsInstance substitute variables (instance_names i m ws) own others ops all (definitions_in m.units) number (numbers_of_made us i m ws renumber)
