-- Which definitions of a program may use themselves, and which do so wrongly.
--
-- A use of a definition is allowed where RECURSIVE declares it, and where a function `N[B] == E` applies itself: in E, as `N[..]`. A definition uses itself
-- wrongly where uses lead from it to itself of which none is allowed; and where it uses itself at all and has a level above 0. A use of a name that the
-- configuration replaces is one of what stands in its place, here too.
use Rattle.std.specs.Prelude.{◌≡◌, ◌⊎◌, ℕ, Bool, true, false, List, [], ◌∷◌, Option, Some, None, slice_get}
use Rattle.reading_trees.specs.declared.config.Config.{Config}
use Rattle.reading_trees.specs.declared.expr.Definition.{Definition}
use Rattle.reading_trees.specs.declared.form.DefinitionForm.TheVariants as forms
use Rattle.reading_trees.specs.declared.module.DeclaredOperator.{DeclaredOperator}
use Rattle.reading_trees.specs.declared.module.Program.{Program}
use Rattle.names_least_levels.specs.declared.told.NameLevel.{NameLevel}
use Rattle.names_least_levels.specs.Levels.{AreLeast, mark, names_rise}
use Rattle.names_scopes.specs.declared.meant.Meant.{Meant}
use Rattle.names_scopes.specs.declared.meant.Meant.TheVariants as meant
use Rattle.names_scopes.specs.declared.meant.Named.{Named}
use Rattle.names_scopes.specs.Applied.{applies}
use Rattle.names_scopes.specs.Mentions.{is_one_of, mentions}
use Rattle.names_program.specs.InUnits.{definitions_in, recursive_in}
use Rattle.names_program.specs.Names.{declared_meaning}
use Rattle.names_program.specs.Uses.{MeansDefinition, UsesDefinition, UsesItself}

abbrev pub operators_declared : List DeclaredOperator → List (List ℕ)
operators_declared [] = []
operators_declared (r ∷ rs) = r.name ∷ operators_declared rs

-- RECURSIVE declares the definition of that index
abbrev pub IsDeclared : Program → ℕ → Type 0
IsDeclared p j = (d : Definition) × (slice_get (definitions_in p.units) j ≡ Some d) × (is_one_of d.name (operators_declared (recursive_in p.units)) ≡ true)

abbrev pub AppliesItself : Definition → List ℕ → Type 0
AppliesItself d n = (d.form ≡ forms.Function) × (n ≡ d.name) × (applies n d.body ≡ true)

-- The definition of that index is a function that its own body applies: the name means it there, and a use of it is `N[..]`.
abbrev pub IsOwnFunction : Program → Config → ℕ → Definition → Type 0
IsOwnFunction p c i d = (d.form ≡ forms.Function) × (is_one_of d.name d.params ≡ false) × (mentions d.name d.body ≡ true) × MeansDefinition p c d.name i

-- a use that is not allowed
pub record UsesStrictly (p : Program) (c : Config) (i j : ℕ) : Type 0 where
  pub used : UsesDefinition p c i j
  pub undeclared : ¬ IsDeclared p j
  pub no_application : ¬ ((i ≡ j) × AppliesItself used.definition used.name)

-- uses of which none is allowed lead from the one to the other
pub data LeadsStrictly (p : Program) (c : Config) : ℕ → ℕ → Type 0 where
  at_once : (i j : ℕ) → UsesStrictly p c i j → LeadsStrictly p c i j
  through : (i j k : ℕ) → UsesStrictly p c i j → LeadsStrictly p c j k → LeadsStrictly p c i k

-- ---- levels

-- whether what a name means is above level 0, where the definitions have these marks
abbrev pub meant_rises : List Bool → Meant → Bool
meant_rises bs (meant.Variable x) = true
meant_rises bs (meant.Definition k) = mark bs k.0
meant_rises bs m = false

abbrev pub named_rises : List Bool → Option Named → Bool
named_rises bs None = false
named_rises bs (Some w) = meant_rises bs w.meant

-- these tell of the names of the program when they are above level 0
abbrev pub AreTold : Program → Config → List NameLevel → Type 0
AreTold p c names = (bs : List Bool) (n : List ℕ) → names_rise names bs n ≡ named_rises bs (declared_meaning p c [] n)

-- The least levels of the program: a mark for each definition, true where it is above level 0. They are the same whichever names tell so, since levels
-- depend on what is told of each name alone.
abbrev pub AreLevelsOf : Program → Config → List Bool → Type 0
AreLevelsOf p c bs = (names : List NameLevel) × AreTold p c names × AreLeast names (definitions_in p.units) bs

abbrev pub IsAbove : Program → Config → ℕ → Type 0
IsAbove p c i = (bs : List Bool) × AreLevelsOf p c bs × (mark bs i ≡ true)

-- the definition of that index uses itself wrongly
abbrev pub MeetsRecursion : Program → Config → ℕ → Type 0
MeetsRecursion p c i = LeadsStrictly p c i i ⊎ (UsesItself p c i × IsAbove p c i)
