-- What stands for the constants and variables of the module of an instance: what WITH gives for a name, and else the name of the same spelling of the
-- importing program, at the place of the instance. The importing program has the names of its variables, constants and definitions, and those that its
-- standard modules bring; the name of an instance is none of them. As in
--
--     VARIABLES x, v
--     I == INSTANCE Cell WITH Step <- 1        where Cell has CONSTANT Step and VARIABLE v
--
-- 1 stands for Step and v for v. A name that has neither has no substitute.
use Rattle.std.specs.Prelude.{ℕ, Bool, false, ◌||◌, if◌then◌else◌, List, [], ◌∷◌, ◌++◌, Option, Some, None}
use Rattle.std.specs.Str.{bytes_eq}
use Rattle.base_core.specs.declared.place.Place.{Place}
use Rattle.reading_trees.specs.Trees.{Tree, Name}
use Rattle.reading_trees.specs.declared.module.Declared.{Declared}
use Rattle.reading_trees.specs.declared.module.Made.{Made}
use Rattle.reading_trees.specs.declared.module.Program.{Program}
use Rattle.reading_trees.specs.declared.module.Unit.{Unit as ModuleUnit}
use Rattle.reading_trees.specs.declared.module.Unit.TheVariants.{Variables, Constants, Recursive, Define, Instance, Assume, Passed}
use Rattle.reading_trees.specs.declared.module.With.{With}
use Rattle.names_scopes.specs.declared.meant.Entry.{Entry}
use Rattle.names_program.specs.Names.{first_of}
use Rattle.names_program.specs.Standard.{brought}
use Rattle.names_instances.specs.Instances.{brings, declares}
use Rattle.names_instances.specs.declared.substitutes.Substitute.{Substitute}

-- what WITH gives for a name
abbrev pub given_by : List With → List ℕ → Option Tree
given_by [] n = None
given_by (w ∷ ws) n = if bytes_eq w.name n then Some w.by else given_by ws n

-- whether a unit declares or defines the name
abbrev pub unit_has : ModuleUnit → List ℕ → Bool
unit_has (Variables ds) n = declares ds n
unit_has (Constants ds) n = declares ds n
unit_has (Define d) n = bytes_eq d.name n
unit_has (Recursive rs) n = false
unit_has (Instance m) n = false
unit_has (Assume e) n = false
unit_has Passed n = false

abbrev pub units_have : List ModuleUnit → List ℕ → Bool
units_have [] n = false
units_have (u ∷ us) n = unit_has u n || units_have us n

-- the name itself, where the importing program has it
abbrev pub same_name : List ModuleUnit → List Entry → Place → List ℕ → Option Tree
same_name units standard at n = if units_have units n || brings standard n then Some (Name at n) else None

-- what stands for a name of the module of an instance
abbrev pub stands_for : List ModuleUnit → List Entry → Made → List ℕ → Option Tree
stands_for units standard m n = first_of (given_by m.withs n) (same_name units standard m.at n)

abbrev pub substitute_if : List ℕ → Option Tree → List Substitute
substitute_if n None = []
substitute_if n (Some e) = record { name = n; by = e } ∷ []

abbrev pub substitutes_for : List ModuleUnit → List Entry → Made → List Declared → List Substitute
substitutes_for units standard m [] = []
substitutes_for units standard m (d ∷ ds) = substitute_if d.name (stands_for units standard m d.name) ++ substitutes_for units standard m ds

-- the constants and variables that units declare, in the order of the text
abbrev pub declared_by : ModuleUnit → List Declared
declared_by (Variables ds) = ds
declared_by (Constants ds) = ds
declared_by (Define d) = []
declared_by (Recursive rs) = []
declared_by (Instance m) = []
declared_by (Assume e) = []
declared_by Passed = []

abbrev pub declared_in : List ModuleUnit → List Declared
declared_in [] = []
declared_in (u ∷ us) = declared_by u ++ declared_in us

-- the substitutes of an instance among the units of a program, whose module is another program
abbrev pub substitutes_of : Program → Made → Program → List Substitute
substitutes_of p m module_program = substitutes_for p.units (brought p.standard) m (declared_in module_program.units)
