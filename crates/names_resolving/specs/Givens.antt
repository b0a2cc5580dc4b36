-- What is wrong with the names that a configuration gives something for. `id = value` asks for a declared constant. `id <- id` asks on the left for a
-- declared constant, a definition, Nat, Int or Seq, and on the right for a definition that takes as many arguments and has no higher level
-- (this project's profile, in the form of TLC's configuration). What is wrong on the left is told before what is wrong on the right.
use Rattle.std.specs.Prelude.{◌==◌, ℕ, if◌then◌else◌, List, [], ◌∷◌, codes, Option, Some, None, slice_get}
use Rattle.std.specs.Str.{bytes_eq}
use Rattle.base_core.specs.declared.place.Place.{Place}
use Rattle.reading_trees.specs.declared.config.GivenAt.{GivenAt}
use Rattle.reading_trees.specs.declared.config.Given.{Given}
use Rattle.reading_trees.specs.declared.config.Given.TheVariants.{Constant, Replaced}
use Rattle.reading_trees.specs.declared.module.Program.{Program}
use Rattle.names_terms.specs.declared.level.Level.{Level}
use Rattle.names_terms.specs.declared.level.Level.TheVariants as levels
use Rattle.names_terms.specs.declared.operator.Operator.{Operator}
use Rattle.names_term_parts.specs.Limits.{is_above}
use Rattle.names_program.specs.InUnits.{definitions_in}
use Rattle.names_program.specs.Names.{Numbers, first_of, variable_index, constant_index, definition_index, params_at}
use Rattle.names_resolving.specs.declared.fault.ResolveFault.{ResolveFault}
use Rattle.names_resolving.specs.declared.fault.ResolveFault.TheVariants.{UnknownName, WrongArity, LevelTooHigh}
use Rattle.names_resolving.specs.declared.givens.Left.{Left}

abbrev pub row_of : List Operator → Option ℕ → Option Operator
row_of ops None = None
row_of ops (Some k) = slice_get ops k

-- the definition of that index, in a table under these numbers
abbrev pub operator_at : Numbers → List Operator → ℕ → Option Operator
operator_at number ops i = row_of ops (number i)

abbrev pub level_in : Option Operator → Level
level_in None = levels.Constant
level_in (Some o) = o.level

-- the level of the definition of that index
abbrev pub level_at : Numbers → List Operator → ℕ → Level
level_at number ops i = level_in (operator_at number ops i)

-- how many parameters the definition of that index has
abbrev pub params_of : Program → ℕ → ℕ
params_of p i = params_at (slice_get (definitions_in p.units) i)

-- what a name that can be replaced takes, and its level
abbrev pub left : ℕ → Level → Left
left needed l = record { needed = needed; level = l }

abbrev pub constant_left : Option ℕ → Option Left
constant_left None = None
constant_left (Some i) = Some (left 0 levels.Constant)

abbrev pub definition_left : Program → Numbers → List Operator → Option ℕ → Option Left
definition_left p number ops None = None
definition_left p number ops (Some i) = Some (left (params_of p i) (level_at number ops i))

abbrev pub set_left : List ℕ → Option Left
set_left n =
    if bytes_eq (codes "Seq") n then Some (left 1 levels.Constant) else
    (if bytes_eq (codes "Nat") n then Some (left 0 levels.Constant) else (if bytes_eq (codes "Int") n then Some (left 0 levels.Constant) else None))

abbrev pub unless_variable : Option ℕ → Option Left → Option Left
unless_variable None x = x
unless_variable (Some i) x = None

-- A name that can be replaced: a declared constant, a definition, or a set of numbers or sequences, whether its module is extended or not.
abbrev pub left_of : Program → Numbers → List Operator → List ℕ → Option Left
left_of p number ops n =
    unless_variable (variable_index p n) (first_of (constant_left (constant_index p n)) (first_of (definition_left p number ops (definition_index p n)) (set_left n)))

-- what is wrong with a definition of so many parameters and this level in place of a name
abbrev pub fit_fault : Left → List ℕ → Place → ℕ → Level → Option ResolveFault
fit_fault x n at found l =
    if found == x.needed then (if is_above l x.level then Some (LevelTooHigh l x.level at) else None) else Some (WrongArity n found x.needed at)

abbrev pub right_fault : Program → Numbers → List Operator → Left → List ℕ → Place → Option ℕ → Option ResolveFault
right_fault p number ops x n at None = Some (UnknownName n at)
right_fault p number ops x n at (Some i) = fit_fault x n at (params_of p i) (level_at number ops i)

abbrev pub replaced_fault : Program → Numbers → List Operator → GivenAt → List ℕ → Place → Option Left → Option ResolveFault
replaced_fault p number ops g n at None = Some (UnknownName g.name g.at)
replaced_fault p number ops g n at (Some x) = right_fault p number ops x n at (definition_index p n)

abbrev pub value_fault : GivenAt → Option ℕ → Option ResolveFault
value_fault g None = Some (UnknownName g.name g.at)
value_fault g (Some i) = None

abbrev pub fault_by : Program → Numbers → List Operator → GivenAt → Given → Option ResolveFault
fault_by p number ops g (Constant l) = value_fault g (constant_index p g.name)
fault_by p number ops g (Replaced n at) = replaced_fault p number ops g n at (left_of p number ops g.name)

-- what is wrong with what is given for a name
abbrev pub given_fault : Program → Numbers → List Operator → GivenAt → Option ResolveFault
given_fault p number ops g = fault_by p number ops g g.given

-- the first thing that is wrong with what is given, in the order of the text
abbrev pub first_given_fault : Program → Numbers → List Operator → List GivenAt → Option ResolveFault
first_given_fault p number ops [] = None
first_given_fault p number ops (g ∷ gs) = first_of (given_fault p number ops g) (first_given_fault p number ops gs)
