-- What is wrong with the names of a program: the first in the order of its units. A definition that uses itself wrongly is told at its name, before all
-- names of its body. What RECURSIVE declares must be defined, with as many parameters.
use Rattle.std.specs.Prelude.{◌≡◌, ◌⊎◌, ◌<◌, ◌==◌, ℕ, Bool, List, [], ◌∷◌, length, take, if◌then◌else◌, Option, Some, None, option_map, slice_get}
use Rattle.reading_trees.specs.declared.config.Config.{Config}
use Rattle.reading_trees.specs.declared.expr.Definition.{Definition}
use Rattle.reading_trees.specs.declared.module.DeclaredOperator.{DeclaredOperator}
use Rattle.reading_trees.specs.declared.module.Program.{Program}
use Rattle.reading_trees.specs.declared.module.Unit.{Unit as ModuleUnit}
use Rattle.reading_trees.specs.declared.module.Unit.TheVariants.{Recursive, Define, Assume}
use Rattle.names_meanings.specs.declared.fault.NameFault.{NameFault}
use Rattle.names_meanings.specs.declared.fault.NameFault.TheVariants.{Recursion, UnknownName, WrongArity}
use Rattle.names_meanings.specs.Complaints.{Taken, Takes, or_else, with_names, complaint}
use Rattle.names_meanings.specs.Outcomes.{needed_by}
use Rattle.names_program.specs.InUnits.{definitions_in}
use Rattle.names_program.specs.Names.{by_index, index_among, names_defined, program_meaning}
use Rattle.names_program.specs.Recursion.{AreLevelsOf, MeetsRecursion, meant_rises}
use Rattle.names_scopes.specs.declared.meant.Named.{Named}

-- what is known of a name, where the definitions of the program have these marks
abbrev pub taken_with : List Bool → Named → Taken
taken_with bs w = record { needed = needed_by w; is_above = meant_rises bs w.meant }

-- the same of each name of the program; this asks for no values of constants
abbrev pub takes_in_program : Program → Config → List Bool → Takes
takes_in_program p c bs n = option_map (taken_with bs) (program_meaning p c [] by_index n)

-- this is known of the names of the program, in its least levels
abbrev pub AreKnown : Program → Config → Takes → Type 0
AreKnown p c g = (bs : List Bool) × AreLevelsOf p c bs × (g ≡ takes_in_program p c bs)

-- how many definitions stand before a unit
abbrev pub definitions_before : List ModuleUnit → ℕ → ℕ
definitions_before us k = length (definitions_in (take k us))

-- an operator that is declared, and its definition: it has as many parameters
abbrev pub params_complaint : DeclaredOperator → Option Definition → Option NameFault
params_complaint r None = Some (UnknownName r.name r.at)
params_complaint r (Some d) = if r.parameters == length d.params then None else Some (WrongArity r.name r.parameters (length d.params) r.at)

-- an operator that is declared, where a definition of its name stands at that index or none does
abbrev pub declared_complaint : List Definition → DeclaredOperator → Option ℕ → Option NameFault
declared_complaint ds r None = Some (UnknownName r.name r.at)
declared_complaint ds r (Some i) = params_complaint r (slice_get ds i)

-- operators that are declared, in their order; of equal definitions the first counts
abbrev pub declared_complaints : List Definition → List DeclaredOperator → Option NameFault
declared_complaints ds [] = None
declared_complaints ds (r ∷ rs) = or_else (declared_complaint ds r (index_among (names_defined ds) r.name)) (declared_complaints ds rs)

-- the first thing that is wrong with the names of a unit, which has so many definitions before it, where this is known of names
abbrev pub UnitFault : Program → Config → Takes → ℕ → ModuleUnit → NameFault → Type 0
UnitFault p c g i (Define d) f =
    (MeetsRecursion p c i × (f ≡ Recursion d.name d.at)) ⊎ ((¬ MeetsRecursion p c i) × (complaint (with_names g d.params) d.body ≡ Some f))
UnitFault p c g i (Recursive rs) f = declared_complaints (definitions_in p.units) rs ≡ Some f
UnitFault p c g i (Assume e) f = complaint g e ≡ Some f
UnitFault p c g i u f = ⊥

-- something is wrong with the names of that unit
pub record IsNameFaultAt (p : Program) (c : Config) (k : ℕ) (f : NameFault) : Type 0 where
  pub unit : ModuleUnit
  pub stands : slice_get p.units k ≡ Some unit
  pub known : Takes
  pub are : AreKnown p c known
  pub wrong : UnitFault p c known (definitions_before p.units k) unit f

-- the first thing that is wrong with the names of a program
pub record IsFirstNameFault (p : Program) (c : Config) (f : NameFault) : Type 0 where
  pub index : ℕ
  pub is : IsNameFaultAt p c index f
  pub none_before : (j : ℕ) (g : NameFault) → j < index → ¬ IsNameFaultAt p c j g

-- nothing is wrong with the names of the program
abbrev pub HasFineNames : Program → Config → Type 0
HasFineNames p c = (k : ℕ) (f : NameFault) → ¬ IsNameFaultAt p c k f
