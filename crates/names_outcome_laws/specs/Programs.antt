-- That something comes of a program with its configuration: laws. Want of memory is no outcome.
use Rattle.std.specs.Prelude.{Bool, ◌≡◌, ◌≢◌, ◌<◌, ◌^◌, ℕ, All, IfOk, List, [], Option, Some, Result, Err, length, slice_get}
use Rattle.values_core.specs.Data.{Val}
use Rattle.reading_trees.specs.declared.config.Config.{Config}
use Rattle.reading_trees.specs.declared.module.Declared.{Declared}
use Rattle.reading_trees.specs.declared.module.Program.{Program}
use Rattle.names_terms.specs.declared.operator.Operator.{Operator}
use Rattle.names_terms.specs.declared.spec.Spec.{Spec}
use Rattle.names_terms.specs.Lists.{terms_list}
use Rattle.names_terms.specs.Terms.{Term}
use Rattle.names_meanings.specs.declared.fault.NameFault.{NameFault}
use Rattle.names_meanings.specs.declared.fault.NameFault.TheVariants as name
use Rattle.names_program.specs.InUnits.{definitions_in, variables_in}
use Rattle.names_program.specs.Names.{Numbers, names_defined}
use Rattle.names_tables.specs.NameFaults.{HasFineNames, IsFirstNameFault}
use Rattle.names_tables.specs.Values.{AreSpelled, IsFirstWithoutValue}
use Rattle.names_resolving.specs.declared.fault.ResolveFault.{ResolveFault}
use Rattle.names_resolving.specs.declared.fault.ResolveFault.TheVariants.{NoMemory}
use Rattle.names_resolving.specs.Resolved.{HasFewVariables, IsNamed, IsOneForm}
use Rattle.names_specification.specs.Resolving.{ResolvedBy}
use Rattle.names_outcome_laws.specs.Lets.{EachIsOfOneLet}

-- A program with its configuration as resolving takes them: no more definitions than a list in memory holds, each value that is written within the limits of
-- values, and SPECIFICATION alone or INIT and NEXT.
pub record IsGiven (p : Program) (c : Config) : Type 0 where
  pub few : length (definitions_in p.units) < 2 ^ 63
  pub spelled : AreSpelled c.givens
  pub form : IsOneForm c

-- What comes of the names: too many variables, the first wrong name, the first constant without a value, or a table in which every name means something.
pub data NamesCome (p : Program) (c : Config) : Type 0 where
  too_many_variables : (d : Declared) → slice_get (variables_in p.units) 64 ≡ Some d → NamesCome p c
  wrong_name : (f : NameFault) → HasFewVariables p → IsFirstNameFault p c f → f ≢ name.NoMemory → NamesCome p c
  no_value : (d : Declared) → HasFewVariables p → HasFineNames p c → IsFirstWithoutValue p c d → NamesCome p c
  named : (values : List Val) (number : Numbers) (ops : List Operator) (assumes : List Term) → IsNamed p c values number ops assumes → NamesCome p c

-- something comes of the names of each program
abbrev pub NamesAlwaysCome : Type 0
NamesAlwaysCome = (p : Program) (c : Config) → IsGiven p c → NamesCome p c

-- what comes of a program, with the word `--wide` and without it: a specification, or a refusal that is not want of memory
abbrev pub HasOutcome : Bool → Program → Config → Option (List ℕ) → Type 0
HasOutcome wide p c silent = (r : Result Spec ResolveFault) × (r ≢ Err NoMemory) × ResolvedBy wide p c silent r

-- something comes of each program
abbrev pub ProgramsHaveAnOutcome : Type 0
ProgramsHaveAnOutcome = (wide : Bool) (p : Program) (c : Config) (silent : Option (List ℕ)) → IsGiven p c → HasOutcome wide p c silent

-- ---- rows without a name

-- each definition of the program has a name
abbrev pub AllAreNamed : Program → Type 0
AllAreNamed p = All (λ n. n ≢ []) (names_defined (definitions_in p.units))

-- An outcome of a program: where it is a specification, each definition without a name in its table is one of a LET, and of one LET.
abbrev pub HasOutcomeOfLets : Bool → Program → Config → Option (List ℕ) → Type 0
HasOutcomeOfLets wide p c silent =
    (r : Result Spec ResolveFault) × (r ≢ Err NoMemory) × ResolvedBy wide p c silent r × IfOk r (λ s. EachIsOfOneLet s.operators (terms_list s.assumes))

-- each program whose definitions have names has such an outcome
abbrev pub NamedProgramsHaveOne : Type 0
NamedProgramsHaveOne = (wide : Bool) (p : Program) (c : Config) (silent : Option (List ℕ)) → IsGiven p c → AllAreNamed p → HasOutcomeOfLets wide p c silent
