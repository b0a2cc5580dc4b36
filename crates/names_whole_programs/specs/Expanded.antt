-- A program with what its instances make. The instances among its units stand beside it in their order. Behind the unit of an instance come the units that
-- it makes; the unit itself stays, so that the names of the instances are told of the expanded program too.
use Rattle.std.specs.Prelude.{Bool, true, false, if◌then◌else◌, List, [], ◌∷◌, ◌++◌, Option, Some, None}
use Rattle.reading_trees.specs.declared.module.Instance.{Instance as ModuleInstance}
use Rattle.reading_trees.specs.declared.module.Program.{Program}
use Rattle.reading_trees.specs.declared.module.Unit.{Unit as ModuleUnit}
use Rattle.reading_trees.specs.declared.module.Unit.TheVariants.{Variables, Constants, Recursive, Define, Instance, Assume, Passed}
use Rattle.reading_trees.specs.declared.module.WholeProgram.{WholeProgram}
use Rattle.names_instances.specs.Instances.{instance_units}
use Rattle.names_whole_programs.specs.Given.{substitutes_of}

abbrev pub is_instance : ModuleUnit → Bool
is_instance (Instance m) = true
is_instance (Variables ds) = false
is_instance (Constants ds) = false
is_instance (Define d) = false
is_instance (Recursive rs) = false
is_instance (Assume e) = false
is_instance Passed = false

-- the first of those that are left, and those behind it
abbrev pub next_of : List ModuleInstance → Option ModuleInstance
next_of [] = None
next_of (i ∷ is) = Some i

abbrev pub left_by : ModuleUnit → List ModuleInstance → List ModuleInstance
left_by (Instance m) [] = []
left_by (Instance m) (i ∷ is) = is
left_by (Variables ds) is = is
left_by (Constants ds) is = is
left_by (Define d) is = is
left_by (Recursive rs) is = is
left_by (Assume e) is = is
left_by Passed is = is

-- the units that a unit of a program makes, where this is the next of its instances
abbrev pub made_by : Program → ModuleUnit → Option ModuleInstance → List ModuleUnit
made_by p (Instance m) None = []
made_by p (Instance m) (Some i) = instance_units m.name i.program (substitutes_of p m i.program)
made_by p (Variables ds) i = []
made_by p (Constants ds) i = []
made_by p (Define d) i = []
made_by p (Recursive rs) i = []
made_by p (Assume e) i = []
made_by p Passed i = []

abbrev pub expanded_units : Program → List ModuleUnit → List ModuleInstance → List ModuleUnit
expanded_units p [] is = []
expanded_units p (u ∷ us) is = u ∷ made_by p u (next_of is) ++ expanded_units p us (left_by u is)

abbrev pub expanded : WholeProgram → Program
expanded w = record { files = w.program.files; units = expanded_units w.program w.program.units w.instances; standard = w.program.standard }

abbrev pub has_instances : List ModuleUnit → Bool
has_instances [] = false
has_instances (u ∷ us) = if is_instance u then true else has_instances us
