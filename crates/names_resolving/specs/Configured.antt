-- The operators that a configuration and a run name: those behind INIT, NEXT and SPECIFICATION, and that of the steps without a line. They are looked up
-- without what the configuration puts in place of names.
use Rattle.std.specs.Prelude.{◌≡◌, ◌==◌, ℕ, if◌then◌else◌, List, length, Option, Some, None, slice_get}
use Rattle.base_core.specs.declared.place.Place.{Place}
use Rattle.reading_trees.specs.declared.config.Config.{Config}
use Rattle.reading_trees.specs.declared.expr.Definition.{Definition}
use Rattle.reading_trees.specs.declared.module.Program.{Program}
use Rattle.names_terms.specs.declared.ids.DefId.{DefId}
use Rattle.names_terms.specs.declared.level.Level.{Level}
use Rattle.names_terms.specs.declared.level.Level.TheVariants.{State, Action}
use Rattle.names_terms.specs.declared.operator.Operator.{Operator}
use Rattle.names_terms.specs.Terms.{Term}
use Rattle.names_term_parts.specs.Limits.{is_above}
use Rattle.names_term_levels.specs.Shape.{HasShape}
use Rattle.names_program.specs.InUnits.{definitions_in}
use Rattle.names_program.specs.Names.{Numbers, first_of, definition_index}
use Rattle.names_resolving.specs.declared.fault.ResolveFault.{ResolveFault}
use Rattle.names_resolving.specs.declared.fault.ResolveFault.TheVariants.{LevelTooHigh}
use Rattle.names_resolving.specs.Givens.{operator_at, level_at}

abbrev pub if_alone : Option Definition → Option Definition
if_alone None = None
if_alone (Some d) = if length d.params == 0 then Some d else None

abbrev pub definition_of : Program → Option ℕ → Option Definition
definition_of p None = None
definition_of p (Some i) = slice_get (definitions_in p.units) i

-- the definition without parameters that has the name
abbrev pub operator_named : Program → List ℕ → Option Definition
operator_named p n = if_alone (definition_of p (definition_index p n))

abbrev pub unless_there : List ℕ → Option Definition → Option (List ℕ)
unless_there n None = Some n
unless_there n (Some d) = None

-- the name, if it is there and no definition without parameters has it
abbrev pub missing : Program → Option (List ℕ) → Option (List ℕ)
missing p None = None
missing p (Some n) = unless_there n (operator_named p n)

-- The first of the names that no definition without parameters has: of those behind INIT, NEXT and SPECIFICATION, and that of the steps without a line.
abbrev pub first_without_operator : Program → Config → Option (List ℕ) → Option (List ℕ)
first_without_operator p c silent =
    first_of (missing p c.init) (first_of (missing p c.next) (first_of (missing p c.specification) (missing p silent)))

abbrev pub row_named : Numbers → List Operator → Option ℕ → Option Operator
row_named number ops None = None
row_named number ops (Some i) = operator_at number ops i

-- the row of the definition of that name, in a table under these numbers
abbrev pub operator_for : Program → Numbers → List Operator → List ℕ → Option Operator
operator_for p number ops n = row_named number ops (definition_index p n)

-- the name has an operator in the table, whose body this is
pub record HasBody (p : Program) (number : Numbers) (ops : List Operator) (n : List ℕ) (body : Term) : Type 0 where
  pub operator : Operator
  pub is : operator_for p number ops n ≡ Some operator
  pub body_is : operator.body ≡ body

-- The operator behind SPECIFICATION, defined at that place, is no conjunction that gives Init and Next.
pub record HasNoShape (p : Program) (c : Config) (number : Numbers) (ops : List Operator) (at : Place) : Type 0 where
  pub name : List ℕ
  pub named : c.specification ≡ Some name
  pub definition : Definition
  pub is : operator_named p name ≡ Some definition
  pub at_is : definition.at ≡ at
  pub body : Term
  pub has : HasBody p number ops name body
  pub none : (init next : Term) → ¬ HasShape ops body init next

-- Init and Next, by the names behind INIT and NEXT, or by the shape of the operator behind SPECIFICATION.
pub data AreSteps (p : Program) (c : Config) (number : Numbers) (ops : List Operator) : Term → Term → Type 0 where
  by_names : (m n : List ℕ) (init next : Term) → c.init ≡ Some m → c.next ≡ Some n → HasBody p number ops m init → HasBody p number ops n next
      → AreSteps p c number ops init next
  by_specification : (n : List ℕ) (body init next : Term) → c.specification ≡ Some n → HasBody p number ops n body → HasShape ops body init next
      → AreSteps p c number ops init next

abbrev pub above : Level → Level → Option Definition → Option ResolveFault
above found limit None = None
above found limit (Some d) = if is_above found limit then Some (LevelTooHigh found limit d.at) else None

abbrev pub level_named : Numbers → List Operator → Option ℕ → Level
level_named number ops None = State
level_named number ops (Some i) = level_at number ops i

-- what is wrong with the level of the operator of that name, which is told where it is defined
abbrev pub too_high : Program → Numbers → List Operator → Level → Option (List ℕ) → Option ResolveFault
too_high p number ops limit None = None
too_high p number ops limit (Some n) = above (level_named number ops (definition_index p n)) limit (operator_named p n)

-- the first of the operators of INIT, NEXT and the steps without a line whose level is too high
abbrev pub first_too_high : Program → Config → Option (List ℕ) → Numbers → List Operator → Option ResolveFault
first_too_high p c silent number ops =
    first_of (too_high p number ops State c.init) (first_of (too_high p number ops Action c.next) (too_high p number ops Action silent))

abbrev pub number_named : Numbers → Option ℕ → Option ℕ
number_named number None = None
number_named number (Some i) = number i

-- the number of the operator of the steps without a line, if one is named
abbrev pub IsSilentOf : Program → Numbers → Option (List ℕ) → Option DefId → Type 0
IsSilentOf p number None None = Unit {0}
IsSilentOf p number None (Some k) = ⊥
IsSilentOf p number (Some n) None = ⊥
IsSilentOf p number (Some n) (Some k) = number_named number (definition_index p n) ≡ Some k.0
