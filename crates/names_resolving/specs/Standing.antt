-- For the prover: what a program declares, as the code has it, and that each definition stands in the table.
use Rattle.std.specs.Prelude.{◌≡◌, ◌<◌, ℕ, List, length, Option, Some, None, MatchOption, map, slice_get}
use Rattle.reading_trees.specs.declared.config.Config.{Config}
use Rattle.reading_trees.specs.declared.form.DefinitionForm.{DefinitionForm}
use Rattle.reading_trees.specs.declared.module.Program.{Program}
use Rattle.names_terms.specs.declared.operator.Operator.{Operator}
use Rattle.names_terms.specs.Lists.{terms_list}
use Rattle.names_terms.specs.Terms.{Term, Terms}
use Rattle.names_term_parts.specs.declared.fault.LevelFault.{LevelFault}
use Rattle.names_term_parts.specs.Slots.{MentionsBelow}
use Rattle.names_term_levels.specs.declared.note.Note.{Note}
use Rattle.names_tables.specs.declared.table.Table.{Table}
use Rattle.names_program.specs.InUnits.{constants_in, definitions_in, variables_in}
use Rattle.names_program.specs.Names.{Numbers, numbers_of}
use Rattle.names_resolving.specs.declared.fault.ResolveFault.{ResolveFault}
use Rattle.names_resolving.specs.declared.fault.ResolveFault.TheVariants.{NotTheShape, NoOperator, NoMemory}
use Rattle.names_resolving.specs.Configured.{HasBody, HasNoShape, operator_named}
use Rattle.names_term_levels.specs.Faults.{IsFirst}
use Rattle.names_term_levels.specs.Shape.{HasShape}
use Rattle.base_core.specs.declared.place.Place.{Place}
use Rattle.reading_trees.specs.declared.expr.Definition.{Definition}
use Rattle.names_resolving.specs.UnitLevels.{IsFormFault}
use Rattle.names_resolving.specs.declared.finding.Declarations.{Declarations}

-- these are the declarations of the program
pub record AreDeclarations (p : Program) (d : Declarations) : Type 0 where
  pub variables : map (λ x. x.now) d.variables.items ≡ variables_in p.units
  pub constants : map (λ x. x.now) d.constants.items ≡ constants_in p.units
  pub definitions : map (λ x. x.now) d.definitions.items ≡ definitions_in p.units

-- each definition of the program has a number, under which it stands in the table
pub record IsComplete (p : Program) (t : Table) : Type 0 where
  pub rows : (i : ℕ) → i < length (definitions_in p.units) → (k : ℕ) × (o : Operator) × (numbers_of t.numbers.items i ≡ Some k) × (slice_get t.operators k ≡ Some o)

-- each term uses the definitions below a number alone
abbrev pub AreBelow : ℕ → Terms → Type 0
AreBelow n ts = (j : ℕ) (e : Term) → slice_get (terms_list ts) j ≡ Some e → MentionsBelow n e

-- the fault that is noted, if there is a note
abbrev pub fault_in : Option Note → Option LevelFault
fault_in None = None
fault_in (Some n) = n.fault

-- the first fault of the body of that definition, if there is one, which has that form
abbrev pub IsFaultOf : DefinitionForm → List Operator → Option Operator → Option LevelFault → Type 0
IsFaultOf form ops None found = found ≡ None
IsFaultOf form ops (Some o) found = MatchOption found ((f : LevelFault) → ¬ IsFormFault form ops o.body f) (IsFirst (IsFormFault form ops o.body))

-- the refusal is that the operator behind SPECIFICATION has another shape, or want of memory
abbrev pub RefusesShape : Program → Config → Numbers → List Operator → ResolveFault → Type 0
RefusesShape p c number ops (NotTheShape at) = HasNoShape p c number ops at
RefusesShape p c number ops NoMemory = Unit {0}
RefusesShape p c number ops f = ⊥

-- the body of the operator of that name gives Init and Next
abbrev pub GivesShape : Program → Numbers → List Operator → List ℕ → Term → Term → Type 0
GivesShape p number ops n init next = (body : Term) × HasBody p number ops n body × HasShape ops body init next

-- The operator of that name, defined at that place, has a body of another shape.
pub record HasOtherShape (p : Program) (number : Numbers) (ops : List Operator) (n : List ℕ) (at : Place) : Type 0 where
  pub definition : Definition
  pub is : operator_named p n ≡ Some definition
  pub at_is : definition.at ≡ at
  pub body : Term
  pub has : HasBody p number ops n body
  pub none : (init next : Term) → ¬ HasShape ops body init next

-- the refusal is that other shape, or want of memory
abbrev pub RefusesBody : Program → Numbers → List Operator → List ℕ → ResolveFault → Type 0
RefusesBody p number ops n (NotTheShape at) = HasOtherShape p number ops n at
RefusesBody p number ops n NoMemory = Unit {0}
RefusesBody p number ops n f = ⊥

-- the refusal is that name, or want of memory
abbrev pub RefusesName : Option (List ℕ) → ResolveFault → Type 0
RefusesName o (NoOperator n) = o ≡ Some n
RefusesName o NoMemory = Unit {0}
RefusesName o f = ⊥
