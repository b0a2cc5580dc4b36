-- What comes of a program with its configuration: a specification in which each name means what its declaration says, or the first thing that is wrong. One
-- case for each outcome, in the order in which things are refused.
use Rattle.std.specs.Prelude.{◌≡◌, ◌⊎◌, ℕ, List, Option, Some, None, Result, Ok, Err, slice_get}
use Rattle.values_core.specs.Data.{Val}
use Rattle.base_core.specs.declared.place.Place.{Place}
use Rattle.reading_trees.specs.declared.config.Config.{Config}
use Rattle.reading_trees.specs.declared.module.Declared.{Declared}
use Rattle.reading_trees.specs.declared.module.Program.{Program}
use Rattle.names_terms.specs.declared.operator.Operator.{Operator}
use Rattle.names_terms.specs.declared.spec.Spec.{Spec}
use Rattle.names_terms.specs.Lists.{terms_list}
use Rattle.names_terms.specs.Terms.{Term}
use Rattle.names_term_parts.specs.declared.fault.LevelFault.{LevelFault}
use Rattle.names_meanings.specs.declared.fault.NameFault.{NameFault}
use Rattle.names_program.specs.InUnits.{variables_in, assumptions_in}
use Rattle.names_program.specs.Names.{Numbers, names_declared}
use Rattle.names_tables.specs.NameFaults.{HasFineNames, IsFirstNameFault}
use Rattle.names_tables.specs.Tables.{AreMeant, IsTable}
use Rattle.names_tables.specs.Values.{AreValues, HasAllValues, IsFirstWithoutValue}
use Rattle.names_resolving.specs.declared.fault.ResolveFault.{ResolveFault}
use Rattle.names_resolving.specs.declared.fault.ResolveFault.TheVariants.{TooManyVariables, NoValue, NoOperator, NotTheShape, NoMemory}
use Rattle.names_resolving.specs.Configured.{first_without_operator, HasNoShape, AreSteps, first_too_high, IsSilentOf}
use Rattle.names_resolving.specs.Givens.{first_given_fault}
use Rattle.names_resolving.specs.Refusals.{instance_names, of_name, of_level}
use Rattle.names_resolving.specs.UnitLevels.{HasFineLevels, IsFirstLevelFault}

abbrev pub HasFewVariables : Program → Type 0
HasFewVariables p = slice_get (variables_in p.units) 64 ≡ None

-- Every name means something: the values of constants, the table of definitions, and what is assumed.
pub record IsNamed (p : Program) (c : Config) (values : List Val) (number : Numbers) (ops : List Operator) (assumes : List Term) : Type 0 where
  pub few : HasFewVariables p
  pub fine : HasFineNames p c
  pub valued : HasAllValues p c
  pub values_are : AreValues p c values
  pub table : IsTable p c values number ops
  pub assumed : AreMeant p c values number ops (assumptions_in p.units) assumes

-- the levels of all texts are as they may be, and so is what the configuration gives
pub record IsLevelled (p : Program) (c : Config) (values : List Val) (number : Numbers) (ops : List Operator) (assumes : List Term) : Type 0 where
  pub named : IsNamed p c values number ops assumes
  pub givens : first_given_fault p number ops c.givens ≡ None
  pub levels : HasFineLevels p number ops assumes

-- besides, the names behind INIT, NEXT and SPECIFICATION and that of the steps without a line have operators
pub record IsConfigured (p : Program) (c : Config) (silent : Option (List ℕ)) (values : List Val) (number : Numbers) (ops : List Operator) (assumes : List Term) : Type 0 where
  pub levelled : IsLevelled p c values number ops assumes
  pub operators : first_without_operator p c silent ≡ None

-- the specification of a program whose names and levels are fine
pub record IsSpecOf (p : Program) (c : Config) (silent : Option (List ℕ)) (number : Numbers) (ops : List Operator) (assumes : List Term) (s : Spec) : Type 0 where
  pub files : s.files ≡ p.files
  pub variables : s.variables ≡ names_declared (variables_in p.units)
  pub operators : s.operators ≡ ops
  pub steps : AreSteps p c number ops s.init s.next
  pub silent_is : IsSilentOf p number silent s.silent
  pub assumes_are : terms_list s.assumes ≡ assumes
  pub unchecked : s.unchecked ≡ c.unchecked

pub data Resolved (p : Program) (c : Config) (silent : Option (List ℕ)) : Result Spec ResolveFault → Type 0 where
  too_many_variables : (d : Declared) → slice_get (variables_in p.units) 64 ≡ Some d → Resolved p c silent (Err (TooManyVariables d.at))
  wrong_name : (f : NameFault) → HasFewVariables p → IsFirstNameFault p c f → Resolved p c silent (Err (of_name (instance_names p.units) f))
  no_value : (d : Declared) → HasFewVariables p → HasFineNames p c → IsFirstWithoutValue p c d → Resolved p c silent (Err (NoValue d.name d.at))
  wrong_given : (values : List Val) (number : Numbers) (ops : List Operator) (assumes : List Term) (f : ResolveFault) → IsNamed p c values number ops assumes
      → first_given_fault p number ops c.givens ≡ Some f → Resolved p c silent (Err f)
  wrong_level : (values : List Val) (number : Numbers) (ops : List Operator) (assumes : List Term) (f : LevelFault) → IsNamed p c values number ops assumes
      → first_given_fault p number ops c.givens ≡ None → IsFirstLevelFault p number ops assumes f → Resolved p c silent (Err (of_level f))
  no_operator : (values : List Val) (number : Numbers) (ops : List Operator) (assumes : List Term) (n : List ℕ) → IsLevelled p c values number ops assumes
      → first_without_operator p c silent ≡ Some n → Resolved p c silent (Err (NoOperator n))
  no_shape : (values : List Val) (number : Numbers) (ops : List Operator) (assumes : List Term) (at : Place) → IsConfigured p c silent values number ops assumes
      → HasNoShape p c number ops at → Resolved p c silent (Err (NotTheShape at))
  too_high : (values : List Val) (number : Numbers) (ops : List Operator) (assumes : List Term) (f : ResolveFault) → IsConfigured p c silent values number ops assumes
      → ((at : Place) → ¬ HasNoShape p c number ops at) → first_too_high p c silent number ops ≡ Some f → Resolved p c silent (Err f)
  accepted : (values : List Val) (number : Numbers) (ops : List Operator) (assumes : List Term) (s : Spec) → IsConfigured p c silent values number ops assumes
      → first_too_high p c silent number ops ≡ None → IsSpecOf p c silent number ops assumes s → Resolved p c silent (Ok s)

-- what resolving answers: what comes of the program, or that memory is wanting
abbrev pub Answers : Program → Config → Option (List ℕ) → Result Spec ResolveFault → Type 0
Answers p c silent (Ok s) = Resolved p c silent (Ok s)
Answers p c silent (Err NoMemory) = Unit {0}
Answers p c silent (Err f) = Resolved p c silent (Err f)

-- the configuration has SPECIFICATION alone, or INIT and NEXT without it
abbrev pub IsOneForm : Config → Type 0
IsOneForm c = ((n : List ℕ) × (c.specification ≡ Some n) × (c.init ≡ None) × (c.next ≡ None)) ⊎ ((m n : List ℕ) × (c.specification ≡ None) × (c.init ≡ Some m) × (c.next ≡ Some n))
