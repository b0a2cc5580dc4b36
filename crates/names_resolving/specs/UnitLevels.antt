-- What is wrong with the levels of a program: the first in the order of its units, and in a unit the first in the order of its text.
use Rattle.std.specs.Prelude.{◌≡◌, ◌<◌, ℕ, List, length, take, Some, slice_get}
use Rattle.reading_trees.specs.declared.form.DefinitionForm.{DefinitionForm}
use Rattle.reading_trees.specs.declared.form.DefinitionForm.TheVariants as forms
use Rattle.reading_trees.specs.declared.module.Program.{Program}
use Rattle.reading_trees.specs.declared.module.Unit.{Unit as ModuleUnit}
use Rattle.reading_trees.specs.declared.module.Unit.TheVariants.{Define, Assume}
use Rattle.names_terms.specs.declared.operator.Operator.{Operator}
use Rattle.names_terms.specs.Terms.{Term}
use Rattle.names_term_parts.specs.declared.fault.LevelFault.{LevelFault}
use Rattle.names_term_levels.specs.Faults.{IsFault, IsFirst, IsAssumptionFault}
use Rattle.names_program.specs.InUnits.{assumptions_in}
use Rattle.names_program.specs.Names.{Numbers}
use Rattle.names_tables.specs.NameFaults.{definitions_before}

-- What is wrong with the body of a definition of that form: what stands in an instance for a constant is to be constant, as what is assumed.
abbrev pub IsFormFault : DefinitionForm → List Operator → Term → LevelFault → Type 0
IsFormFault forms.Operator ops e f = IsFault ops e f
IsFormFault forms.Function ops e f = IsFault ops e f
IsFormFault forms.Constant ops e f = IsAssumptionFault ops e f

-- something is wrong with the levels in the body of the definition of that index, which has that form
pub record IsBodyFault (number : Numbers) (ops : List Operator) (form : DefinitionForm) (i : ℕ) (f : LevelFault) : Type 0 where
  pub row : ℕ
  pub operator : Operator
  pub numbered : number i ≡ Some row
  pub stands : slice_get ops row ≡ Some operator
  pub wrong : IsFormFault form ops operator.body f

-- something is wrong with the levels of the assumption of that index
pub record IsAssumedFault (ops : List Operator) (assumes : List Term) (j : ℕ) (f : LevelFault) : Type 0 where
  pub term : Term
  pub stands : slice_get assumes j ≡ Some term
  pub wrong : IsAssumptionFault ops term f

-- Something is wrong with the levels of a unit, which has so many definitions and assumptions before it.
abbrev pub IsUnitFault : Numbers → List Operator → List Term → ℕ → ℕ → ModuleUnit → LevelFault → Type 0
IsUnitFault number ops assumes i j (Define d) f = IsBodyFault number ops d.form i f
IsUnitFault number ops assumes i j (Assume e) f = IsAssumedFault ops assumes j f
IsUnitFault number ops assumes i j u f = ⊥

abbrev pub assumptions_before : List ModuleUnit → ℕ → ℕ
assumptions_before us k = length (assumptions_in (take k us))

pub record IsLevelFaultAt (p : Program) (number : Numbers) (ops : List Operator) (assumes : List Term) (k : ℕ) (f : LevelFault) : Type 0 where
  pub unit : ModuleUnit
  pub stands : slice_get p.units k ≡ Some unit
  pub wrong : IsUnitFault number ops assumes (definitions_before p.units k) (assumptions_before p.units k) unit f

pub record IsFirstLevelFault (p : Program) (number : Numbers) (ops : List Operator) (assumes : List Term) (f : LevelFault) : Type 0 where
  pub index : ℕ
  pub is : IsFirst (IsLevelFaultAt p number ops assumes index) f
  pub none_before : (j : ℕ) (g : LevelFault) → j < index → ¬ IsLevelFaultAt p number ops assumes j g

abbrev pub HasFineLevels : Program → Numbers → List Operator → List Term → Type 0
HasFineLevels p number ops assumes = (k : ℕ) (f : LevelFault) → ¬ IsLevelFaultAt p number ops assumes k f
