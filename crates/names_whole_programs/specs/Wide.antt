-- A program with what its instances make, where `--wide` is asked for. An instance with which something is wrong makes nothing. In its place stands a definition
-- of its name that means nothing, so that it is passed over and told as any definition with an unknown name: its body is the name that the fault tells, at the
-- place of the fault, as a name that nothing defines. As in
--
--     C == INSTANCE Consensus WITH chosen <- chosen        where chosen is a variable of Consensus and a definition of the importing program
--
-- which becomes `C == !!chosen`. Where nothing is wrong with any instance this is the program as it is expanded without the word.
use Rattle.std.specs.Prelude.{ℕ, List, [], ◌∷◌, ◌++◌, Option, Some, None}
use Rattle.base_core.specs.declared.place.Place.{Place}
use Rattle.reading_trees.specs.Trees.{Qualified, NoTrees}
use Rattle.reading_trees.specs.declared.form.DefinitionForm.TheVariants as forms
use Rattle.reading_trees.specs.declared.module.Instance.{Instance as ModuleInstance}
use Rattle.reading_trees.specs.declared.module.Made.{Made}
use Rattle.reading_trees.specs.declared.module.Program.{Program}
use Rattle.reading_trees.specs.declared.module.Unit.{Unit as ModuleUnit}
use Rattle.reading_trees.specs.declared.module.Unit.TheVariants.{Variables, Constants, Recursive, Define, Instance, Assume, Passed}
use Rattle.reading_trees.specs.declared.module.WholeProgram.{WholeProgram}
use Rattle.names_instances.specs.Instances.{unknown}
use Rattle.names_resolving.specs.declared.fault.ResolveFault.{ResolveFault}
use Rattle.names_resolving.specs.declared.fault.ResolveFault.TheVariants.{UnknownName, NoSubstitute, NotAVariable}
use Rattle.names_whole_programs.specs.Expanded.{left_by, made_by, next_of}
use Rattle.names_whole_programs.specs.InstanceFaults.{unit_fault}

-- the name and the place that a fault of an instance tells
abbrev pub fault_name : ResolveFault → List ℕ
fault_name (UnknownName n at) = n
fault_name (NoSubstitute n at) = n
fault_name (NotAVariable n at) = n
fault_name f = []

abbrev pub fault_place : Place → ResolveFault → Place
fault_place here (UnknownName n at) = at
fault_place here (NoSubstitute n at) = at
fault_place here (NotAVariable n at) = at
fault_place here f = here

-- a definition of the name of an instance that means nothing
abbrev pub blank_definition : Made → ResolveFault → ModuleUnit
blank_definition m f =
    Define (record { name = m.name; at = m.at; params = []; form = forms.Operator; body = Qualified (fault_place m.at f) (unknown (fault_name f)) NoTrees })

abbrev pub blank : ModuleUnit → ResolveFault → List ModuleUnit
blank (Instance m) f = blank_definition m f ∷ []
blank (Variables ds) f = []
blank (Constants ds) f = []
blank (Define d) f = []
blank (Recursive rs) f = []
blank (Assume e) f = []
blank Passed f = []

-- a unit with what it makes, where this is the next of the instances
abbrev pub left_with : Program → ModuleUnit → Option ModuleInstance → Option ResolveFault → List ModuleUnit
left_with p u i None = u ∷ made_by p u i
left_with p u i (Some f) = blank u f

abbrev pub left_of : Program → ModuleUnit → Option ModuleInstance → List ModuleUnit
left_of p u i = left_with p u i (unit_fault p u i)

abbrev pub wide_units : Program → List ModuleUnit → List ModuleInstance → List ModuleUnit
wide_units p [] is = []
wide_units p (u ∷ us) is = left_of p u (next_of is) ++ wide_units p us (left_by u is)

abbrev pub expanded_wide : WholeProgram → Program
expanded_wide w = record { files = w.program.files; units = wide_units w.program w.program.units w.instances; standard = w.program.standard }
