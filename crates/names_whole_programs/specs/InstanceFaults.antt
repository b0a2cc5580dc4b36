-- What is wrong with the instances of a program, in the order of the text. Of one instance these come one after the other:
--
-- 1. A name in WITH is no constant and no variable of the module: it is unknown, at its place.
-- 2. A constant or variable of the module has no substitute: told with its name, at the instance.
-- 3. The substitute of a variable is no name of a variable of the program: told with the name of the variable of the module, at the substitute.
use Rattle.std.specs.Prelude.{ℕ, Bool, false, if◌then◌else◌, List, [], ◌∷◌, Option, Some, None}
use Rattle.base_core.specs.declared.place.Place.{Place}
use Rattle.reading_trees.specs.Trees.{Tree, Name, place_of}
use Rattle.reading_trees.specs.declared.module.Declared.{Declared}
use Rattle.reading_trees.specs.declared.module.Instance.{Instance as ModuleInstance}
use Rattle.reading_trees.specs.declared.module.Made.{Made}
use Rattle.reading_trees.specs.declared.module.Program.{Program}
use Rattle.reading_trees.specs.declared.module.Unit.{Unit as ModuleUnit}
use Rattle.reading_trees.specs.declared.module.Unit.TheVariants.{Variables, Constants, Recursive, Define, Instance, Assume, Passed}
use Rattle.reading_trees.specs.declared.module.WholeProgram.{WholeProgram}
use Rattle.reading_trees.specs.declared.module.With.{With}
use Rattle.names_program.specs.InUnits.{variables_in}
use Rattle.names_program.specs.Names.{first_of}
use Rattle.names_instances.specs.Instances.{declares, substitute_for}
use Rattle.names_instances.specs.declared.substitutes.Substitute.{Substitute}
use Rattle.names_resolving.specs.declared.fault.ResolveFault.{ResolveFault}
use Rattle.names_resolving.specs.declared.fault.ResolveFault.TheVariants.{UnknownName, NoSubstitute, NotAVariable}
use Rattle.names_whole_programs.specs.Expanded.{left_by, next_of}
use Rattle.names_whole_programs.specs.Given.{declared_in, substitutes_of}

-- the first name in WITH that is none of those that the module declares
abbrev pub unknown_given : List Declared → List With → Option ResolveFault
unknown_given ds [] = None
unknown_given ds (w ∷ ws) = if declares ds w.name then unknown_given ds ws else Some (UnknownName w.name w.at)

-- the first of these without a substitute
abbrev pub lacking : Place → List ℕ → Option Tree → Option ResolveFault
lacking at n None = Some (NoSubstitute n at)
lacking at n (Some e) = None

abbrev pub without_substitute : List Substitute → Place → List Declared → Option ResolveFault
without_substitute substitutes at [] = None
without_substitute substitutes at (d ∷ ds) = first_of (lacking at d.name (substitute_for substitutes d.name)) (without_substitute substitutes at ds)

-- the first of these variables of the module whose substitute is none of those of the program
abbrev pub is_variable : List Declared → Tree → Bool
is_variable variables (Name at y) = declares variables y
is_variable variables e = false

abbrev pub no_variable : List Declared → List ℕ → Option Tree → Option ResolveFault
no_variable variables n None = None
no_variable variables n (Some e) = if is_variable variables e then None else Some (NotAVariable n (place_of e))

abbrev pub not_a_variable : List Declared → List Substitute → List Declared → Option ResolveFault
not_a_variable variables substitutes [] = None
not_a_variable variables substitutes (d ∷ ds) = first_of (no_variable variables d.name (substitute_for substitutes d.name)) (not_a_variable variables substitutes ds)

-- what is wrong with these substitutes of an instance, where these are the variables of the program, and what the module declares
abbrev pub substituted_fault : List Declared → List Substitute → Place → List Declared → List Declared → Option ResolveFault
substituted_fault variables substitutes at declared own = first_of (without_substitute substitutes at declared) (not_a_variable variables substitutes own)

-- what is wrong with an instance, whose module has this program
abbrev pub instance_fault : Program → Made → Program → Option ResolveFault
instance_fault p m module_program =
    first_of (unknown_given (declared_in module_program.units) m.withs)
    (substituted_fault (variables_in p.units) (substitutes_of p m module_program) m.at (declared_in module_program.units) (variables_in module_program.units))

-- what is wrong with a unit of the program, where this is the next of its instances
abbrev pub unit_fault : Program → ModuleUnit → Option ModuleInstance → Option ResolveFault
unit_fault p (Instance m) None = None
unit_fault p (Instance m) (Some i) = instance_fault p m i.program
unit_fault p (Variables ds) i = None
unit_fault p (Constants ds) i = None
unit_fault p (Define d) i = None
unit_fault p (Recursive rs) i = None
unit_fault p (Assume e) i = None
unit_fault p Passed i = None

abbrev pub units_fault : Program → List ModuleUnit → List ModuleInstance → Option ResolveFault
units_fault p [] is = None
units_fault p (u ∷ us) is = first_of (unit_fault p u (next_of is)) (units_fault p us (left_by u is))

-- the first thing that is wrong with the instances of a program
abbrev pub first_instance_fault : WholeProgram → Option ResolveFault
first_instance_fault w = units_fault w.program w.program.units w.instances
